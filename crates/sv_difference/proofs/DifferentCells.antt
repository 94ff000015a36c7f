-- The groups of a path in the table of a configuration say what the verdicts are.
use Rattle.std.proofs.lemmas.Bool.{and_parts, false≢true}
use Rattle.std.proofs.lemmas.List.{map-append}
use Rattle.std.proofs.lemmas.List.Elements.{filter-append}
use Rattle.std.proofs.lemmas.Slice.Eq.{bytes_eq-Decides}
use Rattle.std.proofs.Common.{◌≡◌, ℕ, Bool, true, false, ◌&&◌, ◌||◌, List, [], ◌∷◌, ◌++◌, length, map, refl, ap, sym, ◌∙◌, append-nil, arith, cond, inl, inr, Option}
use Rattle.std.specs.Prelude.{filter}
use Rattle.std.specs.List.{flat_map, list_all}
use Rattle.std.specs.Option.{option_to_list}
use Rattle.std.specs.Str.{bytes_eq}
use Rattle.sv_mapping.specs.BestMatch.{best_pattern}
use Rattle.sv_mapping.specs.Pattern.{is_pattern}
use Rattle.sv_mapping.specs.Segments.{is_rooted}
use Rattle.sv_mapping.proofs.Tried.{In, In-map}
use Rattle.sv_realm.specs.declared.caller.Caller.{Caller}
use Rattle.sv_constraints.specs.Covering.{all_patterns, lists}
use Rattle.sv_policy.proofs.Steps.{passing_lists}
use Rattle.sv_policy.specs.Patterns.{BestIsOfTexts}
use Rattle.sv_audit.proofs.Found.{ordered_lists}
use Rattle.sv_audit.proofs.Members.{in_along}
use Rattle.sv_audit.specs.Callers.{has_method}
use Rattle.sv_audit.specs.Access.{fitting_caller}
use Rattle.sv_audit.specs.Reading.{TablesAreRight, cells_for, cells_in, is_same, row_patterns, said_to}
use Rattle.sv_audit.specs.Rows.{in_row_order, match_every_path, other_paths, row_at, table_of}
use Rattle.sv_audit.specs.declared.access.Cell.{Cell}
use Rattle.sv_audit.specs.declared.rows.Group.{Group}
use Rattle.sv_audit.specs.declared.rows.Row.{Row}
use Rattle.sv_audit.specs.declared.rows.Table.{Table}
use Rattle.sv_audit.specs.Configurations.{Configuration, HasUrlPatterns, best_of, said_by}
use Rattle.sv_difference.specs.Differences.{groups_at, url_patterns}

-- ---- Lists.
module _ {X Y : Type 0} (test : X → Bool) (f : X → List Y) where
  flat_at : (b : Bool) (x : X) (kept : List X) → flat_map f (cond b (x ∷ kept) kept) ≡ cond b (f x) [] ++ flat_map f kept
  flat_at true x kept = refl
  flat_at false x kept = refl

  flat_filter : (xs : List X) → flat_map f (filter test xs) ≡ flat_map (λ x. cond (test x) (f x) []) xs
  flat_filter [] = refl
  flat_filter (x ∷ xs) = flat_at (test x) x (filter test xs) ∙ ap (λ rest. cond (test x) (f x) [] ++ rest) (flat_filter xs)

flat_kept : {X Y : Type 0} (test : Y → Bool) (f : X → List Y) (xs : List X) → flat_map (λ x. filter test (f x)) xs ≡ filter test (flat_map f xs)
flat_kept test f [] = refl
flat_kept test f (x ∷ xs) = ap (λ rest. filter test (f x) ++ rest) (flat_kept test f xs) ∙ sym (filter-append test (f x) (flat_map f xs))

map_twice : {X Y Z : Type 0} (f : X → Y) (g : Y → Z) (xs : List X) → map g (map f xs) ≡ map (λ x. g (f x)) xs
map_twice f g [] = refl
map_twice f g (x ∷ xs) = ap (λ rest. g (f x) ∷ rest) (map_twice f g xs)

-- ---- The only value of the items that pass.
module _ {X Y : Type 0} (f : X → Y) (test : X → Bool) (v : Y) where
  first_is : (y : Y) (ys : List Y) → y ∷ ys ≡ v ∷ [] → y ≡ v
  first_is y ys e = cc

  in_one : (y : Y) → In y (v ∷ []) → y ≡ v
  in_one y (inl same) = same
  in_one y (inr none) = absurd none

  pub only_some : (xs : List X) → map f (filter test xs) ≡ v ∷ [] → (x : X) × In x xs × (test x ≡ true) × (f x ≡ v)
  only_some [] is = absurd (omega (arith, ap length is))
  only_some (x ∷ xs) is = go (test x) refl is (λ later. only_some xs later)
    where
      go : (b : Bool) → test x ≡ b → map f (cond b (x ∷ filter test xs) (filter test xs)) ≡ v ∷ [] → (map f (filter test xs) ≡ v ∷ [] → (y : X) × In y xs × (test y ≡ true) × (f y ≡ v)) → (y : X) × In y (x ∷ xs) × (test y ≡ true) × (f y ≡ v)
      go true passes e below = (x, inl refl, passes, first_is (f x) (map f (filter test xs)) e)
      go false passes e below = let rest = below e in (rest.0, inr rest.1, rest.2, rest.3)

  in_filter : (x : X) (xs : List X) → In x xs → test x ≡ true → In x (filter test xs)
  in_filter x [] there passes = absurd there
  in_filter x (y ∷ ys) (inl same) passes = go (test y) (ap test (sym same) ∙ passes)
    where
      go : (b : Bool) → b ≡ true → In x (cond b (y ∷ filter test ys) (filter test ys))
      go true e = inl same
      go false e = absurd (false≢true e)
  in_filter x (y ∷ ys) (inr later) passes = go (test y) (in_filter x ys later passes)
    where
      go : (b : Bool) → In x (filter test ys) → In x (cond b (y ∷ filter test ys) (filter test ys))
      go true below = inr below
      go false below = below

  pub only_all : (xs : List X) → map f (filter test xs) ≡ v ∷ [] → (x : X) → In x xs → test x ≡ true → f x ≡ v
  only_all xs is x there passes = in_one (f x) (in_along (map f (filter test xs)) (v ∷ []) (f x) is (In-map f x (filter test xs) (in_filter x xs there passes)))

-- ---- The cells of a method as those of the groups.
abbrev cells : List Group → List Cell
cells groups = map (λ (group : Group). group.cell) groups

cells_map : (method : List ℕ) (rows : List Row) → flat_map (cells_in method) rows ≡ cells (filter (has_method method) (flat_map (λ (row : Row). row.groups) rows))
cells_map method [] = refl
cells_map method (row ∷ rows) =
    ap (λ rest. cells_in method row ++ rest) (cells_map method rows)
    ∙ sym (ap cells (filter-append (has_method method) row.groups (flat_map (λ (one : Row). one.groups) rows)) ∙ map-append (λ (group : Group). group.cell) (filter (has_method method) row.groups) (filter (has_method method) (flat_map (λ (one : Row). one.groups) rows)))

cells_of : (table : Table) (method path : List ℕ) → cells_for table method path ≡ cells (filter (has_method method) (groups_at table.rows (best_pattern (row_patterns table.rows) path)))
cells_of table method path =
    cells_map method (filter (λ (row : Row). is_same row.pattern (best_pattern (row_patterns table.rows) path)) table.rows)
    ∙ ap (λ groups. cells (filter (has_method method) groups)) (flat_filter (λ (row : Row). is_same row.pattern (best_pattern (row_patterns table.rows) path)) (λ (row : Row). row.groups) table.rows)

-- ---- The patterns of the table of a configuration.
listed_all : (test : List ℕ → Bool) (texts : List (List ℕ)) (text : List ℕ) → list_all test texts ≡ true → lists texts text ≡ true → test text ≡ true
listed_all test [] text all there = absurd (false≢true there)
listed_all test (x ∷ texts) text all there = go (bytes_eq x text) refl there (λ later. listed_all test texts text (and_parts (test x) (list_all test texts) all).1 later)
  where
    go : (b : Bool) → bytes_eq x text ≡ b → (b || lists texts text) ≡ true → (lists texts text ≡ true → test text ≡ true) → test text ≡ true
    go true is h below = ap test (sym ((bytes_eq-Decides x text).0 is)) ∙ (and_parts (test x) (list_all test texts) all).0
    go false is h below = below h

absorbed : (a b : Bool) → (a ≡ true → b ≡ true) → (a && b) ≡ a
absorbed true b h = h refl
absorbed false b h = refl

module _ (it : Configuration) where
  abbrev table : Table
  table = table_of it.constraints it.rules

  abbrev ordered : List (List ℕ)
  ordered = in_row_order (all_patterns it.constraints)

  none_last : (closed : Bool) → row_patterns (cond closed [] (other_paths ∷ [])) ≡ []
  none_last true = refl
  none_last false = refl

  patterns_from : (texts : List (List ℕ)) (rest : List Row) → row_patterns (map (row_at it.constraints it.rules) texts ++ rest) ≡ texts ++ row_patterns rest
  patterns_from [] rest = refl
  patterns_from (text ∷ texts) rest = ap (λ others. text ∷ others) (patterns_from texts rest)

  patterns_are : row_patterns table.rows ≡ ordered
  patterns_are =
      patterns_from ordered (cond (match_every_path (all_patterns it.constraints)) [] (other_paths ∷ []))
      ∙ (ap (λ ps. ordered ++ ps) (none_last (match_every_path (all_patterns it.constraints))) ∙ append-nil ordered)

  url_lists : HasUrlPatterns it → (text : List ℕ) → lists (url_patterns table.rows) text ≡ lists (all_patterns it.constraints) text
  url_lists are text =
      ap (λ ps. lists ps text) (flat_kept is_pattern (λ (row : Row). option_to_list row.pattern) table.rows ∙ ap (filter is_pattern) patterns_are)
      ∙ (passing_lists is_pattern ordered text ∙ (ap (λ b. b && is_pattern text) (ordered_lists (all_patterns it.constraints) text) ∙ absorbed (lists (all_patterns it.constraints) text) (is_pattern text) (listed_all is_pattern (all_patterns it.constraints) text are)))

  pub best_url : BestIsOfTexts → HasUrlPatterns it → (path : List ℕ) → best_pattern (url_patterns table.rows) path ≡ best_of it path
  best_url best_same are path = best_same (url_patterns table.rows) (all_patterns it.constraints) path (url_lists are)

  best_row : BestIsOfTexts → (path : List ℕ) → best_pattern (row_patterns table.rows) path ≡ best_of it path
  best_row best_same path = ap (λ ps. best_pattern ps path) patterns_are ∙ best_same ordered (all_patterns it.constraints) path (ordered_lists (all_patterns it.constraints))

  pub groups_say : TablesAreRight → BestIsOfTexts → (method path : List ℕ) (caller : Option Caller) → is_rooted path ≡ true
      → map (λ (group : Group). said_to caller group.cell.access) (filter (has_method method) (groups_at table.rows (best_of it path))) ≡ said_by it method path caller ∷ []
  groups_say right best_same method path caller rooted =
      sym (map_twice (λ (group : Group). group.cell) (λ (cell : Cell). said_to caller cell.access) (filter (has_method method) (groups_at table.rows (best_of it path))))
      ∙ (ap (map (λ (cell : Cell). said_to caller cell.access)) (sym (cells_of table method path ∙ ap (λ best. cells (filter (has_method method) (groups_at table.rows best))) (best_row best_same path)))
      ∙ right fitting_caller it.constraints it.rules method path caller rooted)
