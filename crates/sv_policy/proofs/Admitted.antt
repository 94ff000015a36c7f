-- The least number of the constraints that admit a caller, computed from the numbers of the roles.
use Rattle.std.proofs.Common.{arith, subst, ◌≡◌, ℕ, ◌+◌, ◌<◌, ◌≤◌, length, take, get_or, Bool, true, false, ◌||◌, List, [], ◌∷◌, ◌++◌, map, refl, ap, sym, ◌∙◌, min, Option, None, Some, cond, codes}
use Rattle.std.specs.Borrow.{Bor}
use Rattle.std.specs.Prelude.{filter, fold}
use Rattle.std.specs.Bool.{then_some}
use Rattle.std.specs.List.{list_any}
use Rattle.std.specs.Str.{bytes_eq}
use Rattle.std.proofs.Math.Nat.{min_comm}
use Rattle.std.proofs.lemmas.Bool.Decides.{same_from_decides}
use Rattle.std.proofs.lemmas.Slice.Eq.{bytes_eq-Decides}
use Rattle.sv_realm.specs.declared.caller.Caller.{Caller}
use Rattle.sv_constraints.specs.Covering.{lists}
use Rattle.sv_constraints.specs.Findings.{findings_of, lesser, with_one}
use Rattle.sv_constraints.specs.Laws.{FindingsOfOneMore, LeastOfOneMore}
use Rattle.sv_constraints.specs.Roles.{admits, roles_read}
use Rattle.sv_constraints.specs.Verdict.{least_number, least_where, admits_caller}
use Rattle.sv_constraints.specs.declared.constraint.Auth.{Auth}
use Rattle.sv_constraints.specs.declared.constraint.Auth.TheVariants.{Absent, Roles}
use Rattle.sv_constraints.specs.declared.constraint.Constraint.{Constraint}
use Rattle.sv_constraints.specs.declared.findings.Findings.{Findings}
use Rattle.sv_constraints.specs.declared.constraint.Rules.{Rules}
use Rattle.sv_policy.proofs.Steps.{any_same, filter_pass, filter_same, filter_stop, gone_over, seen_more}
use Rattle.sv_policy.proofs.Lowered.{lesser_assoc}
use Rattle.sv_policy.specs.Merged.{IsMerged, admits_everyone, admitting, grants, names_everyone, names_role, number_of}
use Rattle.sv_policy.specs.declared.merged.Merged.{Merged}

min_assoc : (n m k : ℕ) → min (min n m) k ≡ min n (min m k)
min_assoc n m k = grind arith

-- The least number of one constraint and others.
fold_min : (n m : ℕ) (ns : List ℕ) → fold min (min n m) ns ≡ min n (fold min m ns)
fold_min n m [] = refl
fold_min n m (k ∷ ns) = ap (λ x. fold min x ns) (min_assoc n m k) ∙ fold_min n (min m k) ns

least_cons : (c : Constraint) (members : List Constraint) → least_number (c ∷ members) ≡ lesser (Some c.number) (least_number members)
least_cons c [] = refl
least_cons c (d ∷ members) = ap Some (fold_min c.number d.number (map (λ member. member.number) members))

cond_cons : (b : Bool) (c : Constraint) (members : List Constraint) → least_number (cond b (c ∷ members) members) ≡ lesser (then_some b c.number) (least_number members)
cond_cons true c members = least_cons c members
cond_cons false c members = refl

least_where_cons : (test : Constraint → Bool) (c : Constraint) (members : List Constraint) → least_where test (c ∷ members) ≡ lesser (then_some (test c) c.number) (least_where test members)
least_where_cons test c members = cond_cons (test c) c (filter test members)

least_same : (p q : Constraint → Bool) → ((c : Constraint) → p c ≡ q c) → (members : List Constraint) → least_where p members ≡ least_where q members
least_same p q same members = ap least_number (filter_same p q same members)

lesser_comm : (a b : Option ℕ) → lesser a b ≡ lesser b a
lesser_comm None None = refl
lesser_comm None (Some m) = refl
lesser_comm (Some n) None = refl
lesser_comm (Some n) (Some m) = ap Some (min_comm n m)

min_same : (n : ℕ) → min n n ≡ n
min_same n = grind arith

lesser_same : (n : ℕ) → Some n ≡ lesser (Some n) (Some n)
lesser_same n = ap Some (sym (min_same n))

either_at : (a b : Bool) (n : ℕ) (x y : Option ℕ) → lesser (then_some (a || b) n) (lesser x y) ≡ lesser (lesser (then_some a n) x) (lesser (then_some b n) y)
either_at true true n x y =
    ap (λ z. lesser z (lesser x y)) (lesser_same n) ∙ lesser_assoc (Some n) (Some n) (lesser x y) ∙ ap (lesser (Some n)) (sym (lesser_assoc (Some n) x y) ∙ ap (λ z. lesser z y) (lesser_comm (Some n) x) ∙ lesser_assoc x (Some n) y)
    ∙ sym (lesser_assoc (Some n) x (lesser (Some n) y))
either_at true false n x y = sym (lesser_assoc (Some n) x y)
either_at false true n x y = sym (lesser_assoc (Some n) x y) ∙ ap (λ z. lesser z y) (lesser_comm (Some n) x) ∙ lesser_assoc x (Some n) y
either_at false false n x y = refl

-- The least number of the constraints that pass one of two tests.
least_either : (p q : Constraint → Bool) (members : List Constraint) → least_where (λ c. p c || q c) members ≡ lesser (least_where p members) (least_where q members)
least_either p q [] = refl
least_either p q (c ∷ members) =
    least_where_cons (λ d. p d || q d) c members
    ∙ ap (lesser (then_some (p c || q c) c.number)) (least_either p q members)
    ∙ either_at (p c) (q c) c.number (least_where p members) (least_where q members)
    ∙ sym (ap (λ x. lesser x (least_where q (c ∷ members))) (least_where_cons p c members) ∙ ap (lesser (lesser (then_some (p c) c.number) (least_where p members))) (least_where_cons q c members))

or_nothing : (a : Bool) → a ≡ (a || false)
or_nothing true = refl
or_nothing false = refl

or_assoc : (a b c : Bool) → ((a || b) || c) ≡ (a || (b || c))
or_assoc true b c = refl
or_assoc false b c = refl

-- The least of the numbers for several tests, after that of an earlier test.
least_any : {R : Type 0} (kept : R → Option ℕ) (passes : R → Constraint → Bool) (members : List Constraint) → ((role : R) → kept role ≡ least_where (passes role) members) → (held : List R) (before : Constraint → Bool)
    → fold (λ least role. lesser least (kept role)) (least_where before members) held ≡ least_where (λ c. before c || list_any (λ role. passes role c) held) members
least_any kept passes members is [] before = least_same before (λ c. before c || false) (λ c. or_nothing (before c)) members
least_any kept passes members is (role ∷ held) before =
    ap (λ x. fold (λ least other. lesser least (kept other)) x held) (ap (lesser (least_where before members)) (is role) ∙ sym (least_either before (passes role) members))
    ∙ least_any kept passes members is held (λ c. before c || passes role c)
    ∙ least_same (λ c. (before c || passes role c) || list_any (λ other. passes other c) held) (λ c. before c || (passes role c || list_any (λ other. passes other c) held)) (λ c. or_assoc (before c) (passes role c) (list_any (λ other. passes other c) held)) members

-- Whether two lists of roles overlap does not depend on which of them is searched first.
either_none : {X : Type 0} (xs : List X) → list_any (λ x. false) xs ≡ false
either_none [] = refl
either_none (x ∷ xs) = either_none xs

or_cross : (a b c d : Bool) → ((a || b) || (c || d)) ≡ ((a || c) || (b || d))
or_cross true b c d = refl
or_cross false true true d = refl
or_cross false true false d = refl
or_cross false false c d = refl

any_or : {X : Type 0} (p q : X → Bool) (xs : List X) → list_any (λ x. p x || q x) xs ≡ (list_any p xs || list_any q xs)
any_or p q [] = refl
any_or p q (x ∷ xs) = ap (λ rest. (p x || q x) || rest) (any_or p q xs) ∙ or_cross (p x) (q x) (list_any p xs) (list_any q xs)

any_exchanged : {X Y : Type 0} (test : X → Y → Bool) (xs : List X) (ys : List Y) → list_any (λ x. list_any (test x) ys) xs ≡ list_any (λ y. list_any (λ x. test x y) xs) ys
any_exchanged test [] ys = sym (either_none ys)
any_exchanged test (x ∷ xs) ys = ap (λ rest. list_any (test x) ys || rest) (any_exchanged test xs ys) ∙ sym (any_or (test x) (λ y. list_any (λ z. test z y) xs) ys)

same_text : (a b : List ℕ) → bytes_eq a b ≡ bytes_eq b a
same_text a b = same_from_decides (bytes_eq a b) (bytes_eq b a) (bytes_eq-Decides a b) ((λ h. sym ((bytes_eq-Decides b a).0 h)), (λ e. (bytes_eq-Decides b a).1 (sym e)))

roles_meet : (read held : List (List ℕ)) → list_any (λ role. lists read role) held ≡ list_any (lists held) read
roles_meet read held =
    any_exchanged (λ role listed. bytes_eq listed role) held read
    ∙ any_same (λ listed. list_any (λ role. bytes_eq listed role) held) (lists held) (λ listed. any_same (λ role. bytes_eq listed role) (λ role. bytes_eq role listed) (λ role. same_text listed role) held) read

admits_auth : (rules : Rules) (caller : Caller) (auth : Auth) → (names_everyone auth || list_any (λ role. names_role rules.declared role auth) caller.roles) ≡ admits rules.declared (Some caller) auth
admits_auth rules caller Absent = either_none caller.roles
admits_auth rules caller (Roles names) = ap (λ meets. lists names (codes "**") || meets) (roles_meet (roles_read rules.declared names) caller.roles)

nobody_admitted : (rules : Rules) (members : List Constraint) → None ≡ least_where (admits_caller rules None) members
nobody_admitted rules [] = refl
nobody_admitted rules (c ∷ members) = nobody_admitted rules members

-- The least number of the constraints that admit the caller.
admitting_is : (rules : Rules) (members : List Constraint) (merged : Merged) (caller : Option Caller) → IsMerged rules members merged → admitting merged caller ≡ least_where (admits_caller rules caller) members
admitting_is rules members merged None is = nobody_admitted rules members
admitting_is rules members merged (Some caller) is =
    ap (λ first. fold (λ least role. lesser least (number_of merged.roles role)) first caller.roles) is.everyone
    ∙ least_any (number_of merged.roles) (grants rules) members is.roles caller.roles admits_everyone
    ∙ least_same (λ c. admits_everyone c || list_any (λ role. grants rules role c) caller.roles) (admits_caller rules (Some caller)) (λ c. admits_auth rules caller c.auth) members

-- The findings for a caller.
pub found_for : (rules : Rules) (members : List Constraint) (merged : Merged) (caller : Option Caller) (admitted : Option ℕ) → IsMerged rules members merged → admitted ≡ admitting merged caller
    → record { covering = merged.found.covering; precluding = merged.found.precluding; permits_plain = merged.found.permits_plain; unauthenticated = merged.found.unauthenticated; admitting = admitted } ≡ findings_of rules caller members
found_for rules members merged caller admitted is is_admitted =
    ap (λ (x : Findings). record { covering = x.covering; precluding = x.precluding; permits_plain = x.permits_plain; unauthenticated = x.unauthenticated; admitting = admitted }) is.found
    ∙ ap (λ y. record { covering = (findings_of rules caller members).covering; precluding = (findings_of rules caller members).precluding; permits_plain = (findings_of rules caller members).permits_plain; unauthenticated = (findings_of rules caller members).unauthenticated; admitting = y }) (is_admitted ∙ admitting_is rules members merged caller is)

-- The merge after one more constraint.
pub merged_more : LeastOfOneMore → FindingsOfOneMore → (rules : Rules) (members : List Constraint) (c : Constraint) (before after : Merged) → IsMerged rules members before
    → after.found ≡ with_one rules None c before.found
    → after.everyone ≡ lesser before.everyone (then_some (admits_everyone c) c.number)
    → ((role : List ℕ) → number_of after.roles role ≡ lesser (number_of before.roles role) (then_some (grants rules role c) c.number))
    → IsMerged rules (members ++ c ∷ []) after
merged_more least_where_more found_more rules members c before after is found everyone roles = record {
  found = found ∙ ap (with_one rules None c) is.found ∙ found_more rules None members c;
  everyone = everyone ∙ ap (λ x. lesser x (then_some (admits_everyone c) c.number)) is.everyone ∙ sym (least_where_more admits_everyone members c);
  roles = λ role. roles role ∙ ap (λ x. lesser x (then_some (grants rules role c) c.number)) (is.roles role) ∙ sym (least_where_more (grants rules role) members c);
}

module _ (rules : Rules) (test : Constraint → Bool) (members : List (Bor Constraint)) (i : ℕ) (m : Bor Constraint) (before final : Merged) (within : i < length members) (at_i : m ≡ get_or members i m) (is : IsMerged rules (filter test (map (λ member. member.now) (take i members))) before) where
  -- The merge after one more constraint, which passes the test and is merged, or is skipped.
  pub gathered : (after : Merged) → test m.now ≡ true → ((ms : List Constraint) → IsMerged rules ms before → IsMerged rules (ms ++ m.now ∷ []) after) → final ≡ after → IsMerged rules (filter test (map (λ member. member.now) (take (i + 1) members))) final
  gathered after passes more is_after =
      subst (λ x. IsMerged rules (filter test x) final) (sym (seen_more (λ member. member.now) members i m within at_i))
      (subst (λ x. IsMerged rules x final) (sym (filter_pass test (map (λ member. member.now) (take i members)) m.now passes))
      (subst (IsMerged rules (filter test (map (λ member. member.now) (take i members)) ++ m.now ∷ [])) (sym is_after) (more (filter test (map (λ member. member.now) (take i members))) is)))

  pub passed_over : test m.now ≡ false → final ≡ before → IsMerged rules (filter test (map (λ member. member.now) (take (i + 1) members))) final
  passed_over stops is_before =
      subst (λ x. IsMerged rules (filter test x) final) (sym (seen_more (λ member. member.now) members i m within at_i))
      (subst (λ x. IsMerged rules x final) (sym (filter_stop test (map (λ member. member.now) (take i members)) m.now stops))
      (subst (IsMerged rules (filter test (map (λ member. member.now) (take i members)))) (sym is_before) is))

-- The merge after all constraints.
pub gathered_all : (rules : Rules) (test : Constraint → Bool) (members : List (Bor Constraint)) (i : ℕ) (merged : Merged) → length members ≤ i → IsMerged rules (filter test (map (λ member. member.now) (take i members))) merged → IsMerged rules (filter test (map (λ member. member.now) members)) merged
gathered_all rules test members i merged ended is = subst (λ x. IsMerged rules (filter test (map (λ member. member.now) x)) merged) (gone_over members i ended) is
