-- A row has exactly one cell for each method.
use Rattle.std.proofs.lemmas.Bool.{false≢true}
use Rattle.std.proofs.Common.{◌≡◌, ℕ, Bool, true, false, not, ◌||◌, ◌&&◌, List, [], ◌∷◌, ◌++◌, map, refl, ap, ap₂, sym, ◌∙◌, cond, append-nil, Option, Some}
use Rattle.std.specs.Prelude.{filter}
use Rattle.std.specs.List.{list_any}
use Rattle.std.specs.Str.{bytes_eq}
use Rattle.std.proofs.lemmas.List.{map-append}
use Rattle.std.proofs.lemmas.List.Elements.{filter-append}
use Rattle.std.proofs.lemmas.Slice.Eq.{bytes_eq-Decides}
use Rattle.sv_realm.specs.declared.caller.Caller.{Caller}
use Rattle.sv_constraints.specs.Covering.{covering, covers_method, lists}
use Rattle.sv_constraints.specs.declared.constraint.Constraint.{Constraint}
use Rattle.sv_constraints.specs.declared.constraint.Rules.{Rules}
use Rattle.sv_policy.proofs.Named.{unnamed_members}
use Rattle.sv_policy.proofs.Rising.{rising_lists}
use Rattle.sv_policy.proofs.Steps.{filter_same, passing_lists}
use Rattle.sv_policy.specs.Covering.{named_methods}
use Rattle.sv_policy.specs.Uncovered.{rising}
use Rattle.sv_audit.proofs.Equal.{cell_from, cell_self, once}
use Rattle.sv_audit.proofs.Filters.{filter_map, filter_none, map_self, map_twice}
use Rattle.sv_audit.specs.Access.{cell_for}
use Rattle.sv_audit.specs.Reading.{cells_in}
use Rattle.sv_audit.specs.Rows.{different_cells, exceptions, group_with, groups_of, named_cell, others_cell, others_group, row_for}
use Rattle.sv_audit.specs.Same.{same_cell}
use Rattle.sv_audit.specs.declared.access.Cell.{Cell}
use Rattle.sv_audit.specs.declared.access.Access.{Access}
use Rattle.sv_audit.specs.declared.rows.Group.{Group}
use Rattle.sv_audit.specs.declared.rows.NamedCell.{NamedCell}

or_last : (a b : Bool) → b ≡ true → (a || b) ≡ true
or_last true b h = refl
or_last false b h = h

module _ (cell : List ℕ → Cell) (texts : List (List ℕ)) (others : Cell) (method : List ℕ) where
  abbrev its_cell : List ℕ → NamedCell
  its_cell name = record { name = name; cell = cell name }

  abbrev named : List NamedCell
  named = map its_cell texts

  names : map (λ (one : NamedCell). one.name) named ≡ texts
  names = map_twice its_cell (λ (one : NamedCell). one.name) texts ∙ map_self texts

  abbrev contains : Group → Bool
  contains group = covers_method group.methods method

  in_group : (c : Cell) → contains (group_with named c) ≡ (lists texts method && same_cell (cell method) c)
  in_group c =
      ap (λ ns. lists ns method) (ap (map (λ (one : NamedCell). one.name)) (filter_map its_cell (λ (one : NamedCell). same_cell one.cell c) texts)
      ∙ map_twice its_cell (λ (one : NamedCell). one.name) (filter (λ name. same_cell (cell name) c) texts) ∙ map_self (filter (λ name. same_cell (cell name) c) texts))
      ∙ passing_lists (λ name. same_cell (cell name) c) texts method

  with_groups : map (λ (g : Group). g.cell) (filter contains (map (group_with named) (different_cells named))) ≡ filter (λ c. lists texts method && same_cell (cell method) c) (different_cells named)
  with_groups =
      ap (map (λ (g : Group). g.cell)) (filter_map (group_with named) contains (different_cells named))
      ∙ map_twice (group_with named) (λ (g : Group). g.cell) (filter (λ c. contains (group_with named c)) (different_cells named))
      ∙ map_self (filter (λ c. contains (group_with named c)) (different_cells named))
      ∙ filter_same (λ c. contains (group_with named c)) (λ c. lists texts method && same_cell (cell method) c) in_group (different_cells named)

  last_at : (there : Bool) → lists (map (λ (one : NamedCell). one.name) named) method ≡ there → map (λ (g : Group). g.cell) (filter contains (others_group named others ∷ [])) ≡ cond (not there) (others ∷ []) []
  last_at true is = ap (λ b. map (λ (g : Group). g.cell) (cond (not b) (others_group named others ∷ []) [])) is
  last_at false is = ap (λ b. map (λ (g : Group). g.cell) (cond (not b) (others_group named others ∷ []) [])) is

  named_at : (x : List ℕ) (rest : List NamedCell) (same below : Bool) → bytes_eq x method ≡ same → (same || below) ≡ true → (below ≡ true → list_any (λ (one : NamedCell). same_cell (cell method) one.cell) rest ≡ true) → (same_cell (cell method) (cell x) || list_any (λ (one : NamedCell). same_cell (cell method) one.cell) rest) ≡ true
  named_at x rest true below is there found = ap (λ b. b || list_any (λ (one : NamedCell). same_cell (cell method) one.cell) rest) (ap (λ name. same_cell (cell method) (cell name)) ((bytes_eq-Decides x method).0 is) ∙ cell_self (cell method))
  named_at x rest false below is there found = or_last (same_cell (cell method) (cell x)) (list_any (λ (one : NamedCell). same_cell (cell method) one.cell) rest) (found there)

  in_named : (xs : List (List ℕ)) → lists xs method ≡ true → list_any (λ (one : NamedCell). same_cell (cell method) one.cell) (map its_cell xs) ≡ true
  in_named [] there = absurd (false≢true there)
  in_named (x ∷ xs) there = named_at x (map its_cell xs) (bytes_eq x method) (lists xs method) refl there (in_named xs)

  one_at : (there : Bool) → lists texts method ≡ there → (there ≡ false → others ≡ cell method) → filter (λ c. there && same_cell (cell method) c) (different_cells named) ++ cond (not there) (others ∷ []) [] ≡ cell method ∷ []
  one_at true is rest =
      append-nil (filter (same_cell (cell method)) (different_cells named)) ∙ once (cell method) named ∙ ap (λ b. cond b (cell method ∷ []) []) (in_named texts is)
  one_at false is rest = ap₂ (λ xs c. xs ++ c ∷ []) (filter_none (λ c. false) (different_cells named) (λ c. refl)) (rest refl)

  -- Exactly one group has the method, and its cell is that of the method.
  pub one_cell : (lists texts method ≡ false → others ≡ cell method) → map (λ (g : Group). g.cell) (filter contains (groups_of named others)) ≡ cell method ∷ []
  unfolding groups_of
  one_cell rest =
      ap (map (λ (g : Group). g.cell)) (filter-append contains (map (group_with named) (different_cells named)) (others_group named others ∷ []))
      ∙ map-append (λ (g : Group). g.cell) (filter contains (map (group_with named) (different_cells named))) (filter contains (others_group named others ∷ []))
      ∙ ap₂ (λ xs ys. xs ++ ys) with_groups (last_at (lists texts method) (ap (λ ns. lists ns method) names))
      ∙ one_at (lists texts method) refl rest

module _ (whose : Access → Option Caller) (constraints : List Constraint) (rules : Rules) (pattern method : List ℕ) where
  abbrev cell_of : List ℕ → Cell
  cell_of name = cell_for whose rules (Some pattern) (covering constraints (Some pattern) name)

  abbrev others_of : Cell
  others_of = others_cell whose constraints rules pattern

  abbrev is_exception : List ℕ → Bool
  is_exception name = not (same_cell (cell_of name) others_of)

  same_from : (named same : Bool) → same_cell (cell_of method) others_of ≡ same → (named && not same) ≡ false → named ≡ true → others_of ≡ cell_of method
  same_from true true is none there = sym (cell_from (cell_of method) others_of is)
  same_from true false is none there = absurd (false≢true (sym none))
  same_from false same is none there = absurd (false≢true there)

  others_at : (named : Bool) → lists (named_methods constraints pattern) method ≡ named → (named && is_exception method) ≡ false → others_of ≡ cell_of method
  others_at true is none = same_from true (same_cell (cell_of method) others_of) refl none refl
  others_at false is none = ap (cell_for whose rules (Some pattern)) (unnamed_members pattern method constraints is)

  excepted : lists (filter is_exception (rising (named_methods constraints pattern))) method ≡ (lists (named_methods constraints pattern) method && is_exception method)
  excepted = passing_lists is_exception (rising (named_methods constraints pattern)) method ∙ ap (λ b. b && is_exception method) (rising_lists (named_methods constraints pattern) method)

  exceptions_are : exceptions whose constraints rules pattern ≡ map (named_cell whose constraints rules pattern) (filter is_exception (rising (named_methods constraints pattern)))
  unfolding exceptions
  exceptions_are = filter_map (named_cell whose constraints rules pattern) (λ (named : NamedCell). not (same_cell named.cell others_of)) (rising (named_methods constraints pattern))

  -- The row of a pattern has the cell of the constraints that cover the method.
  pub row_cell : cells_in method (row_for whose constraints rules pattern) ≡ cell_of method ∷ []
  row_cell =
      ap (λ named. map (λ (g : Group). g.cell) (filter (λ (g : Group). covers_method g.methods method) (groups_of named others_of))) exceptions_are
      ∙ one_cell cell_of (filter is_exception (rising (named_methods constraints pattern))) others_of method
      (λ none. others_at (lists (named_methods constraints pattern) method) refl (sym excepted ∙ none))
