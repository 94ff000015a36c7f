-- The access says what the verdict is.
use Rattle.std.proofs.Common.{◌≡◌, ℕ, Bool, true, false, not, ◌||◌, List, [], ◌∷◌, length, refl, ap, ap₂, sym, ◌∙◌, cond, Option, None, Some, is_none, ◌==◌}
use Rattle.std.specs.List.{flat_map, list_any}
use Rattle.sv_realm.specs.declared.caller.Caller.{Caller}
use Rattle.sv_constraints.specs.Covering.{lists}
use Rattle.sv_constraints.specs.Roles.{admits}
use Rattle.sv_constraints.specs.Verdict.{admits_caller, because, is_open, least_number, least_where, permits_plain, precludes, uncovered, verdict_at}
use Rattle.sv_constraints.specs.declared.cause.Cause.TheVariants as cause
use Rattle.sv_constraints.specs.declared.constraint.Auth.{Auth}
use Rattle.sv_constraints.specs.declared.constraint.Auth.TheVariants as auth
use Rattle.sv_constraints.specs.declared.constraint.Constraint.{Constraint}
use Rattle.sv_constraints.specs.declared.constraint.Rules.{Rules}
use Rattle.sv_constraints.specs.declared.owned_decision.OwnedDecision.{OwnedDecision}
use Rattle.sv_constraints.specs.declared.owned_decision.OwnedWhy.{OwnedWhy}
use Rattle.sv_constraints.specs.declared.owned_decision.OwnedDecision.TheVariants.{Open, Login, Denied}
use Rattle.sv_policy.proofs.Best.{any_listed}
use Rattle.sv_policy.proofs.Rising.{rising_lists}
use Rattle.sv_policy.proofs.Steps.{any_of_joined}
use Rattle.sv_policy.specs.Merged.{admits_everyone, names_everyone}
use Rattle.sv_policy.specs.Uncovered.{rising}
use Rattle.sv_audit.specs.Access.{access_at, roles_meant, roles_of, uncovered_access}
use Rattle.sv_audit.specs.Reading.{kind_and_cause, said_to}
use Rattle.sv_audit.specs.declared.access.Access.{Access}
use Rattle.sv_audit.specs.declared.access.Access.TheVariants.{Uncovered, UncoveredDenied, Precluded, NeedsTls, Everyone, AnyLogin, Roles}

-- A test on texts passes for one of a list exactly if it does for one of the sorted list.
any_rising : (test : List ℕ → Bool) (xs : List (List ℕ)) → list_any test (rising xs) ≡ list_any test xs
any_rising test xs = any_listed test (rising xs) xs (rising_lists xs)

-- ---- A caller is admitted exactly if every caller is, or the caller holds one of the roles.
pub admitted_one : (declared : List (List ℕ)) (caller : Caller) (its_auth : Auth) → admits declared (Some caller) its_auth ≡ (names_everyone its_auth || list_any (lists caller.roles) (roles_meant declared its_auth))
admitted_one declared caller auth.Absent = refl
admitted_one declared caller (auth.Roles names) = refl

regroup : (a b c d : Bool) → ((a || b) || (c || d)) ≡ ((a || c) || (b || d))
regroup true b c d = refl
regroup false true true d = refl
regroup false true false d = refl
regroup false false c d = refl

admitted_any : (rules : Rules) (caller : Caller) (members : List Constraint) → list_any (admits_caller rules (Some caller)) members ≡
    (list_any admits_everyone members || list_any (λ (m : Constraint). list_any (lists caller.roles) (roles_meant rules.declared m.auth)) members)
admitted_any rules caller [] = refl
admitted_any rules caller (m ∷ members) =
    ap₂ (λ a b. a || b) (admitted_one rules.declared caller m.auth) (admitted_any rules caller members)
    ∙ regroup (names_everyone m.auth) (list_any (lists caller.roles) (roles_meant rules.declared m.auth)) (list_any admits_everyone members) (list_any (λ (x : Constraint). list_any (lists caller.roles) (roles_meant rules.declared x.auth)) members)

admitted : (rules : Rules) (caller : Caller) (members : List Constraint) → list_any (admits_caller rules (Some caller)) members ≡ (list_any admits_everyone members || list_any (lists caller.roles) (roles_of rules members))
admitted rules caller members =
    admitted_any rules caller members
    ∙ ap (λ b. list_any admits_everyone members || b)
    (sym (any_of_joined (lists caller.roles) (λ (m : Constraint). roles_meant rules.declared m.auth) members) ∙ sym (any_rising (lists caller.roles) (flat_map (λ (m : Constraint). roles_meant rules.declared m.auth) members)))

-- ---- Case by case.
row : (caller : Option Caller) (b : Bool) (x y : Access) (u v : OwnedDecision) → said_to caller x ≡ kind_and_cause u → said_to caller y ≡ kind_and_cause v → said_to caller (cond b x y) ≡ kind_and_cause (cond b u v)
row caller true x y u v first rest = first
row caller false x y u v first rest = rest

uncovered_at : (caller : Option Caller) (rules : Rules) (pattern : Option (List ℕ)) (denied : Bool) → rules.deny_uncovered ≡ denied → said_to caller (cond denied UncoveredDenied Uncovered) ≡ kind_and_cause (cond denied (Denied (because pattern None cause.Uncovered)) (Open (because pattern None cause.Uncovered)))
uncovered_at caller rules pattern true is = refl
uncovered_at caller rules pattern false is = refl

known_at : (caller : Caller) (roles : List (List ℕ)) (login role none : OwnedWhy) (any holds : Bool) → list_any (lists caller.roles) roles ≡ holds → role.cause ≡ cause.Role → none.cause ≡ cause.NoRole
    → said_to (Some caller) (cond any AnyLogin (Roles roles)) ≡ kind_and_cause (cond (any || holds) (Open role) (Denied none))
known_at caller roles login role none true holds is p q = ap (λ c. kind_and_cause (Open (because None None c))) (sym p)
known_at caller roles login role none false true is p q = ap (λ b. cond b (kind_and_cause (Open (because None None cause.Role))) (kind_and_cause (Denied (because None None cause.NoRole)))) is ∙ ap (λ c. kind_and_cause (Open (because None None c))) (sym p)
known_at caller roles login role none false false is p q = ap (λ b. cond b (kind_and_cause (Open (because None None cause.Role))) (kind_and_cause (Denied (because None None cause.NoRole)))) is ∙ ap (λ c. kind_and_cause (Denied (because None None c))) (sym q)

unknown_at : (roles : List (List ℕ)) (any : Bool) (login : OwnedWhy) → login.cause ≡ cause.NeedsCaller → said_to None (cond any AnyLogin (Roles roles)) ≡ kind_and_cause (Login login)
unknown_at roles true login p = ap (λ c. kind_and_cause (Login (because None None c))) (sym p)
unknown_at roles false login p = ap (λ c. kind_and_cause (Login (because None None c))) (sym p)

logins : (caller : Option Caller) (rules : Rules) (pattern : Option (List ℕ)) (members : List Constraint) → said_to caller (cond (list_any admits_everyone members) AnyLogin (Roles (roles_of rules members)))
    ≡ kind_and_cause (cond (is_none caller) (Login (because pattern (least_number members) cause.NeedsCaller))
    (cond (list_any (admits_caller rules caller) members) (Open (because pattern (least_where (admits_caller rules caller) members) cause.Role)) (Denied (because pattern (least_number members) cause.NoRole))))
logins None rules pattern members = unknown_at (roles_of rules members) (list_any admits_everyone members) (because pattern (least_number members) cause.NeedsCaller) refl
logins (Some caller) rules pattern members =
    known_at caller (roles_of rules members) (because pattern (least_number members) cause.NeedsCaller) (because pattern (least_where (admits_caller rules (Some caller)) members) cause.Role) (because pattern (least_number members) cause.NoRole)
    (list_any admits_everyone members) (list_any (lists caller.roles) (roles_of rules members)) refl refl refl
    ∙ ap (λ b. kind_and_cause (cond b (Open (because pattern (least_where (admits_caller rules (Some caller)) members) cause.Role)) (Denied (because pattern (least_number members) cause.NoRole)))) (sym (admitted rules caller members))

-- What the access says is the verdict's kind and cause.
pub said : (rules : Rules) (caller : Option Caller) (pattern : Option (List ℕ)) (members : List Constraint) → said_to caller (access_at rules pattern members) ≡ kind_and_cause (verdict_at rules caller pattern members)
said rules caller None members = refl
said rules caller (Some pattern) members =
    row caller (length members == 0) (uncovered_access rules) _ (uncovered rules (because (Some pattern) None cause.Uncovered)) _ (uncovered_at caller rules (Some pattern) rules.deny_uncovered refl)
    (row caller (list_any precludes members) Precluded _ (Denied (because (Some pattern) (least_where precludes members) cause.Precluded)) _ refl
    (row caller (not (list_any permits_plain members)) NeedsTls _ (Denied (because (Some pattern) (least_number members) cause.Transport)) _ refl
    (row caller (list_any is_open members) Everyone _ (Open (because (Some pattern) (least_where is_open members) cause.Unauthenticated)) _ refl
    (logins caller rules (Some pattern) members))))
