-- Constraints decide at a pattern as without all that does not concern it.
use Rattle.std.proofs.Common.{◌≡◌, ℕ, Bool, true, false, not, ◌||◌, ◌&&◌, List, [], ◌∷◌, ◌++◌, length, map, min, refl, ap, ap₂, sym, ◌∙◌, cond, append-nil, Option, Some, ◌==◌}
use Rattle.std.specs.Prelude.{filter}
use Rattle.std.specs.List.{flat_map, list_any, reduce}
use Rattle.std.specs.Str.{bytes_eq}
use Rattle.sv_realm.specs.declared.caller.Caller.{Caller}
use Rattle.sv_constraints.specs.Covering.{covers, covers_method, lists}
use Rattle.sv_constraints.specs.Decision.{why_of}
use Rattle.sv_constraints.specs.Verdict.{admits_caller, is_open, least_number, least_where, permits_plain, precludes, verdict_at}
use Rattle.sv_constraints.specs.declared.constraint.Collection.{Collection}
use Rattle.sv_constraints.specs.declared.constraint.Constraint.{Constraint}
use Rattle.sv_constraints.specs.declared.constraint.Methods.{Methods}
use Rattle.sv_constraints.specs.declared.constraint.Rules.{Rules}
use Rattle.sv_policy.proofs.Listed.{any_seen, length_seen, some_filtered}
use Rattle.sv_policy.proofs.Steps.{filter_same}
use Rattle.sv_policy.specs.Covering.{covers_unnamed, leaves_others_open, listed_methods, method_names, named_methods}
use Rattle.sv_policy.specs.Merged.{admits_everyone}
use Rattle.sv_policy.specs.Uncovered.{rising}
use Rattle.sv_audit.proofs.Filters.{filter_map, map_twice}
use Rattle.sv_audit.proofs.Made.{map_agree, row_with}
use Rattle.sv_audit.specs.Access.{access_at, cell_for, cell_with, roles_meant, roles_of}
use Rattle.sv_audit.specs.Focus.{focused, focused_collection, focused_collections}
use Rattle.sv_audit.specs.Rows.{exceptions, groups_of, named_cell, row_for}
use Rattle.sv_audit.specs.Same.{same_cell}
use Rattle.sv_audit.specs.declared.access.Cell.{Cell}
use Rattle.sv_audit.specs.declared.access.Access.{Access}
use Rattle.sv_audit.specs.declared.rows.NamedCell.{NamedCell}

kept_at : {A : Type 0} (test : A → Bool) (x : A) (xs : List A) (b rest : Bool) → test x ≡ b → list_any test xs ≡ rest → list_any test (cond b (x ∷ xs) xs) ≡ (b || rest)
kept_at test x xs true rest is below = ap (λ b. b || list_any test xs) is
kept_at test x xs false rest is below = below

-- Some item passes exactly if some item that passes does.
any_passing : {A : Type 0} (test : A → Bool) (xs : List A) → list_any test (filter test xs) ≡ list_any test xs
any_passing test [] = refl
any_passing test (x ∷ xs) = kept_at test x (filter test xs) (test x) (list_any test xs) refl (any_passing test xs)

abbrev collection_with : List (List ℕ) → Methods → Collection
collection_with its_patterns its_methods = record { patterns = its_patterns; methods = its_methods }

joined_seen : {A X B : Type 0} (f : A → X) (items : X → List B) (xs : List A) → flat_map items (map f xs) ≡ flat_map (λ x. items (f x)) xs
joined_seen f items [] = refl
joined_seen f items (x ∷ xs) = ap (λ rest. items (f x) ++ rest) (joined_seen f items xs)

-- ---- A collection is kept if some of its patterns are.
module _ (pattern : List ℕ) (collection : Collection) (before : List Collection) (patterns : List (List ℕ)) (are : patterns ≡ filter (λ one. bytes_eq one pattern) collection.patterns) (empty : Bool) (is : empty ≡ (length patterns == 0)) where
  abbrev added : Bool → List Collection
  added listed = before ++ cond listed (focused_collection pattern collection ∷ []) []

  listed_by : lists collection.patterns pattern ≡ not empty
  listed_by = sym (some_filtered (λ one. bytes_eq one pattern) collection.patterns) ∙ ap (λ (ones : List (List ℕ)). not (length ones == 0)) (sym are) ∙ ap not (sym is)

  pub left_out : empty ≡ true → before ≡ added (lists collection.patterns pattern)
  left_out none = sym (append-nil before) ∙ ap added (sym (listed_by ∙ ap not none))

  pub kept : empty ≡ false → (ones : List (List ℕ)) (methods : Methods) → ones ≡ patterns → methods ≡ collection.methods → before ++ collection_with ones methods ∷ [] ≡ added (lists collection.patterns pattern)
  kept some ones methods all same = ap₂ (λ texts its. before ++ collection_with texts its ∷ []) (all ∙ are) same ∙ ap added (sym (listed_by ∙ ap not some))

-- ---- What is covered at the pattern.
module _ (pattern : List ℕ) where
  abbrev here : Collection → Bool
  here collection = lists collection.patterns pattern

  still : (collection : Collection) → here (focused_collection pattern collection) ≡ here collection
  still collection = any_passing (λ one. bytes_eq one pattern) collection.patterns

  any_at : (test : Methods → Bool) (collection : Collection) (rest : List Collection) (b others : Bool) → here collection ≡ b → list_any (λ one. here one && test one.methods) (map (focused_collection pattern) rest) ≡ others
      → list_any (λ one. here one && test one.methods) (map (focused_collection pattern) (cond b (collection ∷ rest) rest)) ≡ (b && test collection.methods || others)
  any_at test collection rest true others is below = ap₂ (λ a b. a && test collection.methods || b) (still collection ∙ is) below
  any_at test collection rest false others is below = below

  any_focused : (test : Methods → Bool) (collections : List Collection) → list_any (λ one. here one && test one.methods) (focused_collections pattern collections) ≡ list_any (λ one. here one && test one.methods) collections
  any_focused test [] = refl
  any_focused test (collection ∷ collections) =
      any_at test collection (filter here collections) (here collection) (list_any (λ one. here one && test one.methods) collections) refl (any_focused test collections)

  covers_focused : (method : List ℕ) (c : Constraint) → covers (focused pattern c) pattern method ≡ covers c pattern method
  covers_focused method c = any_focused (λ methods. covers_method methods method) c.collections

  unnamed_focused : (c : Constraint) → covers_unnamed (focused pattern c) pattern ≡ covers_unnamed c pattern
  unnamed_focused c = any_focused (λ methods. not (leaves_others_open methods)) c.collections

  listed_at : (collection : Collection) (rest : List Collection) (b : Bool) → here collection ≡ b → listed_methods (map (focused_collection pattern) rest) pattern ≡ flat_map (λ one. method_names one.methods) rest
      → listed_methods (map (focused_collection pattern) (cond b (collection ∷ rest) rest)) pattern ≡ flat_map (λ one. method_names one.methods) (cond b (collection ∷ rest) rest)
  listed_at collection rest true is below =
      ap (λ b. flat_map (λ (one : Collection). method_names one.methods) (cond b (focused_collection pattern collection ∷ filter here (map (focused_collection pattern) rest)) (filter here (map (focused_collection pattern) rest)))) (still collection ∙ is)
      ∙ ap (λ names. method_names collection.methods ++ names) below
  listed_at collection rest false is below = below

  listed_focused : (collections : List Collection) → listed_methods (focused_collections pattern collections) pattern ≡ listed_methods collections pattern
  listed_focused [] = refl
  listed_focused (collection ∷ collections) = listed_at collection (filter here collections) (here collection) refl (listed_focused collections)

  pub named_focused : (constraints : List Constraint) → named_methods (map (focused pattern) constraints) pattern ≡ named_methods constraints pattern
  named_focused [] = refl
  named_focused (c ∷ constraints) = ap₂ (λ names rest. names ++ rest) (listed_focused c.collections) (named_focused constraints)

  filter_focused : (test : Constraint → Bool) → ((c : Constraint) → test (focused pattern c) ≡ test c) → (constraints : List Constraint) → filter test (map (focused pattern) constraints) ≡ map (focused pattern) (filter test constraints)
  filter_focused test same constraints = filter_map (focused pattern) test constraints ∙ ap (map (focused pattern)) (filter_same (λ c. test (focused pattern c)) test same constraints)

  pub covering_focused : (method : List ℕ) (constraints : List Constraint) → filter (λ c. covers c pattern method) (map (focused pattern) constraints) ≡ map (focused pattern) (filter (λ c. covers c pattern method) constraints)
  covering_focused method constraints = filter_focused (λ c. covers c pattern method) (covers_focused method) constraints

  pub others_focused : (constraints : List Constraint) → filter (λ c. covers_unnamed c pattern) (map (focused pattern) constraints) ≡ map (focused pattern) (filter (λ c. covers_unnamed c pattern) constraints)
  others_focused constraints = filter_focused (λ c. covers_unnamed c pattern) unnamed_focused constraints

  -- What the constraints decide.
  least_focused : (members : List Constraint) → least_number (map (focused pattern) members) ≡ least_number members
  least_focused members = ap (reduce min) (map_twice (focused pattern) (λ (c : Constraint). c.number) members)

  -- The least number of those that pass a test of all but the collections.
  pub passing_focused : (test : Constraint → Bool) (members : List Constraint) → least_where test (map (focused pattern) members) ≡ least_where (λ c. test (focused pattern c)) members
  passing_focused test members = ap least_number (filter_map (focused pattern) test members) ∙ least_focused (filter (λ c. test (focused pattern c)) members)

  pub any_of_focused : (test : Constraint → Bool) (members : List Constraint) → list_any test (map (focused pattern) members) ≡ list_any (λ c. test (focused pattern c)) members
  any_of_focused test members = any_seen test (focused pattern) members

  roles_focused : (rules : Rules) (members : List Constraint) → roles_of rules (map (focused pattern) members) ≡ roles_of rules members
  roles_focused rules members = ap rising (joined_seen (focused pattern) (λ (c : Constraint). roles_meant rules.declared c.auth) members)

  access_focused : (rules : Rules) (members : List Constraint) → access_at rules (Some pattern) (map (focused pattern) members) ≡ access_at rules (Some pattern) members
  access_focused rules members =
      rw (
        length_seen (focused pattern) members,
        any_seen precludes (focused pattern) members,
        any_seen permits_plain (focused pattern) members,
        any_seen is_open (focused pattern) members,
        any_seen admits_everyone (focused pattern) members,
        roles_focused rules members,
      )

  verdict_focused : (rules : Rules) (caller : Option Caller) (members : List Constraint) → verdict_at rules caller (Some pattern) (map (focused pattern) members) ≡ verdict_at rules caller (Some pattern) members
  verdict_focused rules caller members =
      rw (
        length_seen (focused pattern) members,
        any_seen precludes (focused pattern) members,
        any_seen permits_plain (focused pattern) members,
        any_seen is_open (focused pattern) members,
        any_seen (admits_caller rules caller) (focused pattern) members,
        passing_focused precludes members,
        passing_focused is_open members,
        passing_focused (admits_caller rules caller) members,
        least_focused members,
      )

  cell_focused : (whose : Access → Option Caller) (rules : Rules) (members : List Constraint) → cell_for whose rules (Some pattern) (map (focused pattern) members) ≡ cell_for whose rules (Some pattern) members
  unfolding cell_for
  cell_focused whose rules members =
      ap (cell_with whose rules (Some pattern) (map (focused pattern) members)) (access_focused rules members)
      ∙ ap (λ decision. let made : Cell = record { access = access_at rules (Some pattern) members; constraint = (why_of decision).number } in made)
      (verdict_focused rules (whose (access_at rules (Some pattern) members)) members)

  pub row_focused : (whose : Access → Option Caller) (constraints : List Constraint) (rules : Rules) → row_for whose (map (focused pattern) constraints) rules pattern ≡ row_for whose constraints rules pattern
  unfolding exceptions
  row_focused whose constraints rules =
      ap₂ (λ o named. row_with pattern (groups_of (filter (λ (one : NamedCell). not (same_cell one.cell o)) named) o))
      (ap (cell_for whose rules (Some pattern)) (others_focused constraints) ∙ cell_focused whose rules (filter (λ c. covers_unnamed c pattern) constraints))
      (ap (map (named_cell whose (map (focused pattern) constraints) rules pattern)) (ap rising (named_focused constraints))
      ∙ map_agree (named_cell whose (map (focused pattern) constraints) rules pattern) (named_cell whose constraints rules pattern)
      (λ method. ap (λ cell. let made : NamedCell = record { name = method; cell = cell } in made)
      (ap (cell_for whose rules (Some pattern)) (covering_focused method constraints) ∙ cell_focused whose rules (filter (λ c. covers c pattern method) constraints)))
      (rising (named_methods constraints pattern)))
