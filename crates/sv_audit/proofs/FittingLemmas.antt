-- The number of the constraint that decides for a caller who has just what constraints ask for.
use Rattle.std.proofs.Common.{arith, ◌≡◌, ℕ, Bool, true, false, not, ◌||◌, List, [], ◌∷◌, ◌++◌, length, refl, ap, ap₂, sym, ◌∙◌, cond, Option, None, Some, is_none, is_some, ◌==◌}
use Rattle.std.specs.Prelude.{filter}
use Rattle.std.specs.List.{flat_map, list_any}
use Rattle.std.specs.Option.{option_copied, option_or}
use Rattle.std.specs.Str.{bytes_eq}
use Rattle.std.proofs.lemmas.Bool.{false≢true, or_left, or_parts, or_right}
use Rattle.std.proofs.lemmas.List.Folds.{list_any-append}
use Rattle.std.proofs.lemmas.Slice.Eq.{bytes_eq-Decides}
use Rattle.sv_realm.specs.declared.caller.Caller.{Caller}
use Rattle.sv_constraints.proofs.Least.{some_where}
use Rattle.sv_constraints.specs.Covering.{lists}
use Rattle.sv_constraints.specs.Decision.{why_of}
use Rattle.sv_constraints.specs.Verdict.{admits_caller, because, least_number, least_where}
use Rattle.sv_constraints.specs.declared.cause.Cause.TheVariants as cause
use Rattle.sv_constraints.specs.declared.constraint.Constraint.{Constraint}
use Rattle.sv_constraints.specs.declared.constraint.Rules.{Rules}
use Rattle.sv_constraints.specs.declared.owned_decision.OwnedDecision.{OwnedDecision}
use Rattle.sv_constraints.specs.declared.owned_decision.OwnedDecision.TheVariants.{Denied, Login, Open}
use Rattle.sv_policy.proofs.Rising.{rising_lists}
use Rattle.sv_policy.proofs.Steps.{filter_same}
use Rattle.sv_policy.specs.Merged.{admits_everyone, names_everyone}
use Rattle.sv_audit.proofs.Said.{admitted_one}
use Rattle.sv_audit.specs.Access.{asking, fitting_caller, login_access, login_number, means_role, roles_meant, roles_of}
use Rattle.sv_audit.specs.declared.access.Access.TheVariants.{AnyLogin, Roles}
use Rattle.sv_audit.specs.declared.access.CellCaller.{CellCaller}
use Rattle.sv_audit.specs.declared.access.CellCaller.TheVariants.{Fitting, Given}

-- ---- Whether names mean a role.
some : {A : Type 0} (x : A) (xs : List A) → not (length (x ∷ xs) == 0) ≡ true
some x xs = grind arith

some_appended : {A : Type 0} (first second : List A) → not (length (first ++ second) == 0) ≡ (not (length first == 0) || not (length second == 0))
some_appended [] second = refl
some_appended (x ∷ first) second = some x (first ++ second) ∙ sym (ap (λ b. b || not (length second == 0)) (some x first))

pub some_joined : {X A : Type 0} (f : X → List A) (xs : List X) → not (length (flat_map f xs) == 0) ≡ list_any (λ x. not (length (f x) == 0)) xs
some_joined f [] = refl
some_joined f (x ∷ xs) = some_appended (f x) (flat_map f xs) ∙ ap (λ b. not (length (f x) == 0) || b) (some_joined f xs)

-- ---- Who is admitted.
abbrev caller_with : List (List ℕ) → Caller
caller_with held = record { number = 0; name = []; roles = held }

none_held : (roles : List (List ℕ)) → list_any (lists []) roles ≡ false
none_held [] = refl
none_held (role ∷ roles) = none_held roles

or_nothing : (a : Bool) → (a || false) ≡ a
or_nothing true = refl
or_nothing false = refl

without_roles : (rules : Rules) (m : Constraint) → admits_caller rules (Some (caller_with [])) m ≡ admits_everyone m
without_roles rules m =
    admitted_one rules.declared (caller_with []) m.auth
    ∙ ap (λ b. names_everyone m.auth || b) (none_held (roles_meant rules.declared m.auth)) ∙ or_nothing (names_everyone m.auth)

held_some : (names roles : List (List ℕ)) → ((role : List ℕ) → lists roles role ≡ true → lists names role ≡ true) → list_any (lists names) roles ≡ not (length roles == 0)
held_some names [] within = refl
held_some names (role ∷ roles) within =
    ap (λ b. b || list_any (lists names) roles) (within role (or_left (bytes_eq role role) (lists roles role) ((bytes_eq-Decides role role).1 refl)))
    ∙ sym (some role roles)

with_roles : (rules : Rules) (names : List (List ℕ)) (m : Constraint) → admits_everyone m ≡ false → ((role : List ℕ) → lists (roles_meant rules.declared m.auth) role ≡ true → lists names role ≡ true)
    → admits_caller rules (Some (caller_with names)) m ≡ means_role rules m
with_roles rules names m none within =
    admitted_one rules.declared (caller_with names) m.auth ∙ ap₂ (λ a b. a || b) none (held_some names (roles_meant rules.declared m.auth) within)

-- The constraints that admit a caller with all their roles are those that mean a role.
those_with_roles : (rules : Rules) (names : List (List ℕ)) (members : List Constraint) → list_any admits_everyone members ≡ false
    → ((role : List ℕ) → lists (flat_map (λ (m : Constraint). roles_meant rules.declared m.auth) members) role ≡ true → lists names role ≡ true)
    → filter (admits_caller rules (Some (caller_with names))) members ≡ filter (means_role rules) members
those_with_roles rules names [] none within = refl
those_with_roles rules names (m ∷ members) none within =
    ap₂ (λ b rest. cond b (m ∷ rest) rest)
    (with_roles rules names m ((or_parts (admits_everyone m) (list_any admits_everyone members) none).0)
    (λ role there. within role (joined role ∙ or_left (lists (roles_meant rules.declared m.auth) role) (lists rest_of role) there)))
    (those_with_roles rules names members ((or_parts (admits_everyone m) (list_any admits_everyone members) none).1)
    (λ role there. within role (joined role ∙ or_right (lists (roles_meant rules.declared m.auth) role) (lists rest_of role) there)))
  where
    rest_of : List (List ℕ)
    rest_of = flat_map (λ (one : Constraint). roles_meant rules.declared one.auth) members

    joined : (role : List ℕ) → lists (roles_meant rules.declared m.auth ++ rest_of) role ≡ (lists (roles_meant rules.declared m.auth) role || lists rest_of role)
    joined role = list_any-append (λ listed. bytes_eq listed role) (roles_meant rules.declared m.auth) rest_of

-- ---- The number.
abbrev pub callers : Rules → Option (List ℕ) → List Constraint → Option Caller → OwnedDecision
callers rules pattern members caller =
    cond (is_none caller) (Login (because pattern (least_number members) cause.NeedsCaller))
    (cond (list_any (admits_caller rules caller) members) (Open (because pattern (least_where (admits_caller rules caller) members) cause.Role)) (Denied (because pattern (least_number members) cause.NoRole)))

number_at : (any : Bool) (passing least : Option ℕ) (pattern : Option (List ℕ)) → is_some passing ≡ any
    → (why_of (cond any (Open (because pattern passing cause.Role)) (Denied (because pattern least cause.NoRole)))).number ≡ option_or passing least
number_at true (Some n) least pattern is = refl
number_at false None least pattern is = refl
number_at true None least pattern is = absurd (false≢true is)
number_at false (Some n) least pattern is = absurd (false≢true (sym is))

first_some : (a b c : Option ℕ) → is_some a ≡ true → option_or a c ≡ option_or (option_or a b) c
first_some (Some n) b c is = refl
first_some None b c is = absurd (false≢true is)

second_some : (a b c : Option ℕ) → is_some a ≡ false → option_or b c ≡ option_or (option_or a b) c
second_some None b c is = refl
second_some (Some n) b c is = absurd (false≢true (sym is))

never : {A : Type 0} (xs : List A) → list_any (λ x. false) xs ≡ false
never [] = refl
never (x ∷ xs) = never xs

module _ (rules : Rules) (pattern : Option (List ℕ)) (members : List Constraint) where
  number_for : (caller : Caller) → (why_of (callers rules pattern members (Some caller))).number ≡ option_or (least_where (admits_caller rules (Some caller)) members) (least_number members)
  number_for caller =
      number_at (list_any (admits_caller rules (Some caller)) members) (least_where (admits_caller rules (Some caller)) members) (least_number members) pattern
      (some_where (admits_caller rules (Some caller)) members)

  fits_at : (everyone : Bool) → list_any admits_everyone members ≡ everyone
      → (why_of (callers rules pattern members (fitting_caller (cond everyone AnyLogin (Roles (roles_of rules members)))))).number ≡ login_number Fitting rules (least_number members) members
  fits_at true is =
      number_for (caller_with [])
      ∙ ap (λ found. option_or (least_number found) (least_number members)) (filter_same (admits_caller rules (Some (caller_with []))) admits_everyone (without_roles rules) members)
      ∙ first_some (least_where admits_everyone members) (least_where (means_role rules) members) (least_number members) (some_where admits_everyone members ∙ is)
  fits_at false is =
      number_for (caller_with (roles_of rules members))
      ∙ ap (λ found. option_or (least_number found) (least_number members))
      (those_with_roles rules (roles_of rules members) members is (λ role there. rising_lists (flat_map (λ (m : Constraint). roles_meant rules.declared m.auth) members) role ∙ there))
      ∙ second_some (least_where admits_everyone members) (least_where (means_role rules) members) (least_number members) (some_where admits_everyone members ∙ is)

  fits : (why_of (callers rules pattern members (fitting_caller (login_access rules members)))).number ≡ login_number Fitting rules (least_number members) members
  fits = fits_at (list_any admits_everyone members) refl

  -- Nobody is admitted without a caller.
  no_number : (passing : Option ℕ) → is_some passing ≡ false → least_number members ≡ option_or passing (least_number members)
  no_number None is = refl
  no_number (Some n) is = absurd (false≢true (sym is))

  given : (caller : Option Caller) → (why_of (callers rules pattern members caller)).number ≡ option_or (least_where (admits_caller rules caller) members) (least_number members)
  given None = no_number (least_where (admits_caller rules None) members) (some_where (admits_caller rules None) members ∙ never members)
  given (Some caller) = number_for caller

  -- Where only callers pass, this number is that of the constraint that decides the request.
  pub decides : (whose : CellCaller) → (why_of (callers rules pattern members (asking whose (login_access rules members)))).number ≡ login_number whose rules (least_number members) members
  decides Fitting = fits
  decides (Given caller) = given (option_copied caller)
