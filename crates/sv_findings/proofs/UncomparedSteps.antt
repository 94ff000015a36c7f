-- The patterns whose constraints are not compared are among those that have a group.
use Rattle.std.proofs.lemmas.Bool.{false≢true}
use Rattle.std.proofs.Common.{arith, ◌≡◌, ◌<◌, ℕ, zero, suc, Bool, true, false, not, ◌||◌, ◌&&◌, ◌==◌, List, [], ◌∷◌, Global, get_or, length, map, refl, ap, sym, ◌∙◌, Option, None, Some, is_some}
use Rattle.std.specs.Prelude.{Err, IfOk, Ok, Result, Vec, filter, slice_index_or}
use Rattle.std.specs.Borrow.{Bor}
use Rattle.std.specs.List.{list_any}
use Rattle.std.specs.Option.{option_map_or}
use Rattle.sv_constraints.specs.Covering.{all_patterns, lists}
use Rattle.sv_constraints.specs.declared.constraint.Constraint.{Constraint}
use Rattle.sv_policy.proofs.Best.{any_in}
use Rattle.sv_policy.proofs.Listed.{listed_any, some_filtered}
use Rattle.sv_policy.specs.Groups.{IsGrouped}
use Rattle.sv_policy.specs.Patterns.{lists_pattern}
use Rattle.sv_policy.specs.declared.groups.Groups.{Groups}
use Rattle.sv_audit.proofs.Equal.{and_right}
use Rattle.sv_audit.proofs.Witness.{found}
use Rattle.sv_findings.specs.Dead.{decides_nothing}
use Rattle.sv_findings.specs.Unsearched.{are_too_many, has_uncompared, is_uncompared}

same_truth : (a b : Bool) → (a ≡ true → b ≡ true) → (b ≡ true → a ≡ true) → a ≡ b
same_truth true true one two = refl
same_truth true false one two = sym (one refl)
same_truth false true one two = two refl
same_truth false false one two = refl

or_true : (a : Bool) → (a || true) ≡ true
or_true true = refl
or_true false = refl

-- If one item passes, some do.
pub some_passes : {A X : Type 0} (now : A → X) (test : X → Bool) (xs : List A) (i : ℕ) (x : A) → i < length xs → test (now (get_or xs i x)) ≡ true → true ≡ list_any test (map now xs)
some_passes now test [] i x within passes = let impossible : ⊥ = omega (arith, within) in absurd impossible
some_passes now test (y ∷ xs) zero x within passes = sym (ap (λ b. b || list_any test (map now xs)) passes)
some_passes now test (y ∷ xs) (suc i) x within passes = sym (ap (λ b. test (now y) || b) (sym (some_passes now test xs i x (omega (arith, within)) passes)) ∙ or_true (test (now y)))

-- What follows from an answer follows from the result.
pub if_ok_map : {A E : Type 0} {P Q : A → Type 0} (result : Result A E) → ((a : A) → P a → Q a) → IfOk result P → IfOk result Q
if_ok_map (Ok a) step holds = step a holds
if_ok_map (Err e) step holds = holds

-- If a pattern may decide, its constraints decide whether they are compared.
pub may_decide : (nothing many : Bool) → nothing ≡ false → many ≡ (not nothing && many)
may_decide true many is = absurd (false≢true (sym is))
may_decide false many is = refl

-- Too many constraints are some.
none_are_few : (pattern : List ℕ) → are_too_many [] pattern ≡ false
none_are_few pattern = refl

some_members : (members : List Constraint) (pattern : List ℕ) → are_too_many members pattern ≡ true → (length members == 0) ≡ false
some_members [] pattern many = absurd (false≢true (sym (none_are_few pattern) ∙ many))
some_members (c ∷ members) pattern many = grind arith

group_of : (group : Option (Vec (Bor Constraint) Global)) → (length (map (λ (member : Bor Constraint). member.now) (option_map_or (λ (members : Vec (Bor Constraint) Global). members.items) group [])) == 0) ≡ false → is_some group ≡ true
group_of None some = let none : (length {A = Constraint} [] == 0) ≡ true = refl in absurd (false≢true (sym some ∙ none))
group_of (Some members) some = refl

module _ (constraints : List Constraint) (groups : Groups) (are : IsGrouped constraints groups) where
  abbrev grouped_patterns : List (List ℕ)
  grouped_patterns = map (λ pattern. pattern.now) groups.patterns.items

  abbrev here : List ℕ → List Constraint
  here pattern = filter (λ constraint. lists_pattern constraint pattern) constraints

  abbrev is_it : List ℕ → Bool
  is_it pattern = is_uncompared constraints (all_patterns constraints) pattern

  some_here : (pattern : List ℕ) → is_it pattern ≡ true → (length (here pattern) == 0) ≡ false
  some_here pattern is = some_members (here pattern) pattern (and_right (not (decides_nothing (all_patterns constraints) pattern)) (are_too_many (here pattern) pattern) is)

  is_listed : (pattern : List ℕ) → is_it pattern ≡ true → lists (all_patterns constraints) pattern ≡ true
  is_listed pattern is = listed_any constraints pattern ∙ sym (some_filtered (λ constraint. lists_pattern constraint pattern) constraints) ∙ ap not (some_here pattern is)

  is_grouped : (pattern : List ℕ) → is_it pattern ≡ true → lists grouped_patterns pattern ≡ true
  is_grouped pattern is = sym (are.patterns pattern) ∙ group_of _ (ap (λ (members : List Constraint). length members == 0) (are.members pattern) ∙ some_here pattern is)

  moved : (texts others : List (List ℕ)) → ((pattern : List ℕ) → is_it pattern ≡ true → lists others pattern ≡ true) → list_any is_it texts ≡ true → list_any is_it others ≡ true
  moved texts others there some =
      found (list_any is_it others ≡ true) is_it texts some
      (λ k d within is. any_in is_it others (slice_index_or texts k d) (there (slice_index_or texts k d) is) is)

  pub all_grouped : list_any is_it grouped_patterns ≡ has_uncompared constraints
  all_grouped = same_truth (list_any is_it grouped_patterns) (has_uncompared constraints) (moved grouped_patterns (all_patterns constraints) is_listed) (moved (all_patterns constraints) grouped_patterns is_grouped)
