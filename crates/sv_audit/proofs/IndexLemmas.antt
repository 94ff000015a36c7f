-- The constraints that an index finds for a method are those that cover it.
use Rattle.std.proofs.Common.{◌≡◌, ℕ, Bool, true, false, ◌||◌, List, [], ◌∷◌, ◌++◌, map, refl, ap, ap₂, sym, ◌∙◌, cond, Option, Some, None, Global, nat_cmp}
use Rattle.std.specs.Borrow.{Bor}
use Rattle.std.specs.HashMap.{HashMap}
use Rattle.std.specs.Prelude.{Vec, filter}
use Rattle.std.specs.Cmp.Lexicographic.{slice_cmp}
use Rattle.std.specs.List.{flat_map}
use Rattle.std.specs.List.Sorted.{IsStrictlySortedBy}
use Rattle.std.specs.Str.{bytes_eq}
use Rattle.std.proofs.lemmas.Bool.{false≢true, or_left, or_right}
use Rattle.std.proofs.lemmas.Slice.Eq.{bytes_eq-Decides}
use Rattle.sv_realm.specs.declared.caller.Caller.{Caller}
use Rattle.sv_constraints.specs.Covering.{covers, lists}
use Rattle.sv_constraints.specs.declared.constraint.Constraint.{Constraint}
use Rattle.sv_constraints.specs.declared.constraint.Rules.{Rules}
use Rattle.sv_policy.proofs.Grouping.{turned}
use Rattle.sv_policy.proofs.Named.{unnamed_members}
use Rattle.sv_policy.proofs.Rising.{absent_below, rising_lists, rising_rises}
use Rattle.sv_policy.specs.Covering.{covers_at, covers_unnamed, named_methods}
use Rattle.sv_policy.specs.Uncovered.{rising}
use Rattle.sv_audit.specs.Access.{cell_for}
use Rattle.sv_audit.specs.MethodIndex.{AreEntries, IsIndexed, at_name, entries, found_in, indexed_cell}
use Rattle.sv_audit.specs.Rows.{named_cell}
use Rattle.sv_audit.specs.declared.access.Access.{Access}
use Rattle.sv_audit.specs.declared.method_index.MethodIndex.{MethodIndex}
use Rattle.sv_audit.specs.declared.rows.NamedCell.{NamedCell}

abbrev only : Bool → Constraint → List Constraint
only b c = cond b (c ∷ []) []

-- ---- A name is once in a sorted list.
once_at : (q x : List ℕ) (xs : List (List ℕ)) (c : Constraint) (same : Bool) → bytes_eq q x ≡ same → (same ≡ true → lists xs q ≡ false) → flat_map (at_name q c) xs ≡ only (lists xs q) c
    → only same c ++ flat_map (at_name q c) xs ≡ only (same || lists xs q) c
once_at q x xs c true is absent below = ap (λ rest. c ∷ rest) (below ∙ ap (λ b. only b c) (absent refl))
once_at q x xs c false is absent below = below

once : (q : List ℕ) (xs : List (List ℕ)) (c : Constraint) → IsStrictlySortedBy (slice_cmp nat_cmp) xs → flat_map (at_name q c) xs ≡ only (lists xs q) c
unfolding IsStrictlySortedBy
once q [] c rises = refl
once q (x ∷ xs) c rises =
    once_at q x xs c (bytes_eq q x) refl (λ same. ap (lists xs) ((bytes_eq-Decides q x).0 same) ∙ absent_below x xs rises.0) (once q xs c rises.1)
    ∙ ap (λ b. only (b || lists xs q) c) (turned q x)

-- ---- The entry of a named method.
module _ (pattern q : List ℕ) where
  -- Whether the constraint covers methods that are not named, or names the method.
  abbrev may_cover : Constraint → Bool
  may_cover c = covers_unnamed c pattern || lists (named_methods (c ∷ []) pattern) q

  filter_one : (p r : Constraint → Bool) (c : Constraint) (a b : Bool) → p c ≡ a → r c ≡ b → only a c ≡ only b c → a ≡ b
  filter_one p r c true true is are same = refl
  filter_one p r c false false is are same = refl
  filter_one p r c true false is are same = absurd cc
  filter_one p r c false true is are same = absurd cc

  covers_named : (c : Constraint) (named : Bool) → lists (named_methods (c ∷ []) pattern) q ≡ named → covers c pattern q ≡ true → (covers_unnamed c pattern || named) ≡ true
  covers_named c true is covered = or_right (covers_unnamed c pattern) true refl
  covers_named c false is covered =
      or_left (covers_unnamed c pattern) false
      (filter_one (λ one. covers_at one pattern None) (λ one. covers_at one pattern (Some q)) c (covers_unnamed c pattern) (covers c pattern q) refl refl (unnamed_members pattern q (c ∷ []) is) ∙ covered)

  may_if_covers : (c : Constraint) → covers c pattern q ≡ true → may_cover c ≡ true
  may_if_covers c covered = covers_named c (lists (named_methods (c ∷ []) pattern) q) refl covered

  module _ (names texts : List (List ℕ)) (are : names ≡ rising texts) (named : lists texts q ≡ true) where
    entered_at : (c : Constraint) (general : Bool) → flat_map (at_name q c) (cond general names (rising (named_methods (c ∷ []) pattern))) ≡ only (general || lists (named_methods (c ∷ []) pattern) q) c
    entered_at c true =
        ap (flat_map (at_name q c)) are ∙ once q (rising texts) c (rising_rises texts) ∙ ap (λ b. only b c) (rising_lists texts q ∙ named)
    entered_at c false =
        once q (rising (named_methods (c ∷ []) pattern)) c (rising_rises (named_methods (c ∷ []) pattern)) ∙ ap (λ b. only b c) (rising_lists (named_methods (c ∷ []) pattern) q)

    kept_at : (c : Constraint) (may covered : Bool) (constraints : List Constraint) → covers c pattern q ≡ covered → (covered ≡ true → may ≡ true) → filter (λ one. covers one pattern q) (only may c ++ entries pattern names constraints q) ≡ cond covered (c ∷ filter (λ one. covers one pattern q) (entries pattern names constraints q)) (filter (λ one. covers one pattern q) (entries pattern names constraints q))
    kept_at c true covered constraints is within = ap (λ b. cond b (c ∷ filter (λ one. covers one pattern q) (entries pattern names constraints q)) (filter (λ one. covers one pattern q) (entries pattern names constraints q))) is
    kept_at c false true constraints is within = absurd (false≢true (within refl))
    kept_at c false false constraints is within = refl

    pub covering_entries : (constraints : List Constraint) → filter (λ c. covers c pattern q) (entries pattern names constraints q) ≡ filter (λ c. covers c pattern q) constraints
    covering_entries [] = refl
    covering_entries (c ∷ constraints) =
        ap (λ first. filter (λ one. covers one pattern q) (first ++ entries pattern names constraints q)) (entered_at c (covers_unnamed c pattern))
        ∙ kept_at c (may_cover c) (covers c pattern q) constraints refl (may_if_covers c)
        ∙ ap (λ rest. cond (covers c pattern q) (c ∷ rest) rest) (covering_entries constraints)

pub found_covering : {S : Type 0} (pattern q : List ℕ) (constraints others : List Constraint) (names : List (List ℕ)) (found : Option (HashMap (Bor (List ℕ)) (Vec (Bor Constraint) Global) S)) → AreEntries pattern names constraints found
    → names ≡ rising (named_methods constraints pattern) → lists (named_methods constraints pattern) q ≡ true → others ≡ constraints
    → filter (λ c. covers c pattern q) (found_in found others q) ≡ filter (λ c. covers c pattern q) constraints
found_covering pattern q constraints others names None are ordered named same = ap (filter (λ c. covers c pattern q)) same
found_covering pattern q constraints others names (Some by_name) are ordered named same =
    ap (filter (λ c. covers c pattern q)) (are q) ∙ covering_entries pattern q names (named_methods constraints pattern) ordered named constraints

-- ---- The cells of the named methods.
cells_agree : (whose : Access → Option Caller) (constraints : List Constraint) (rules : Rules) (pattern : List ℕ) (index : MethodIndex) → IsIndexed constraints pattern index → (names : List (List ℕ))
    → ((q : List ℕ) → lists names q ≡ true → lists (named_methods constraints pattern) q ≡ true) → map (indexed_cell whose index rules pattern) names ≡ map (named_cell whose constraints rules pattern) names
cells_agree whose constraints rules pattern index is [] within = refl
cells_agree whose constraints rules pattern index is (name ∷ names) within =
    ap₂ (λ cell cells. cell ∷ cells)
    (ap (λ members. let made : NamedCell = record { name = name; cell = cell_for whose rules (Some pattern) members } in made) (is.members name (within name (or_left (bytes_eq name name) (lists names name) ((bytes_eq-Decides name name).1 refl)))))
    (cells_agree whose constraints rules pattern index is names (λ q there. within q (or_right (bytes_eq name q) (lists names q) there)))

pub indexed_cells : (whose : Access → Option Caller) (constraints : List Constraint) (rules : Rules) (pattern : List ℕ) (index : MethodIndex) → IsIndexed constraints pattern index
    → map (indexed_cell whose index rules pattern) (map (λ name. name.now) index.names.items) ≡ map (named_cell whose constraints rules pattern) (rising (named_methods constraints pattern))
indexed_cells whose constraints rules pattern index is =
    ap (map (indexed_cell whose index rules pattern)) is.names
    ∙ cells_agree whose constraints rules pattern index is (rising (named_methods constraints pattern)) (λ q there. sym (rising_lists (named_methods constraints pattern) q) ∙ there)
