-- A table has exactly one cell for each method and path.
use Rattle.std.proofs.lemmas.Bool.{false≢true, or_parts}
use Rattle.std.proofs.Common.{arith, ◌≡◌, ℕ, zero, suc, Bool, true, false, not, ◌||◌, ◌&&◌, List, [], ◌∷◌, ◌++◌, map, refl, ap, ap₂, sym, ◌∙◌, cond, append-nil, Option, None, Some, is_some, nat_cmp, codes}
use Rattle.std.specs.Prelude.{Contains, filter}
use Rattle.std.specs.Cmp.Lexicographic.{slice_cmp}
use Rattle.std.specs.List.{flat_map, list_any}
use Rattle.std.specs.List.Sorted.{IsStrictlySortedBy}
use Rattle.std.specs.Str.{bytes_eq}
use Rattle.std.proofs.lemmas.List.Elements.{All-cons, All-nil, filter-append}
use Rattle.std.proofs.lemmas.List.Folds.{list_any-append}
use Rattle.std.proofs.lemmas.List.Kept.{IsStrictlySortedBy-filter}
use Rattle.std.proofs.lemmas.Slice.Eq.{bytes_eq-Decides}
use Rattle.sv_mapping.specs.BestMatch.{BestExists, BestIsAMatch, best_pattern}
use Rattle.sv_mapping.specs.Pattern.{form, is_extension_pattern, matches}
use Rattle.sv_mapping.specs.Segments.{is_rooted}
use Rattle.sv_realm.specs.declared.caller.Caller.{Caller}
use Rattle.sv_constraints.specs.Covering.{all_patterns, covering, lists}
use Rattle.sv_constraints.specs.Decision.{why_of}
use Rattle.sv_constraints.specs.Verdict.{verdict}
use Rattle.sv_constraints.specs.declared.constraint.Constraint.{Constraint}
use Rattle.sv_constraints.specs.declared.constraint.Rules.{Rules}
use Rattle.sv_policy.proofs.Best.{or_right}
use Rattle.sv_policy.proofs.Rising.{rising_lists, rising_rises, rising_same}
use Rattle.sv_policy.proofs.Steps.{passing_lists}
use Rattle.sv_policy.specs.Patterns.{BestIsOfTexts}
use Rattle.sv_policy.specs.Uncovered.{IsRising, rising}
use Rattle.sv_audit.proofs.Filters.{filter_map, filter_none, filter_twice}
use Rattle.sv_audit.proofs.RowCells.{row_cell}
use Rattle.sv_audit.proofs.Said.{said}
use Rattle.sv_audit.specs.Access.{access_at, cell_for}
use Rattle.sv_audit.specs.Reading.{NumbersAreRight, TablesAreRight, cells_for, cells_in, is_same, row_patterns, said_to}
use Rattle.sv_audit.specs.Rows.{in_row_order, match_every_path, other_paths, row_for, table_for}
use Rattle.sv_audit.specs.declared.access.Cell.{Cell}
use Rattle.sv_audit.specs.declared.access.Access.{Access}
use Rattle.sv_audit.specs.declared.rows.Row.{Row}

-- ---- The rows have the patterns of the constraints, each once.
split_at : (is listed : Bool) → (((listed && not is) || (listed && is))) ≡ listed
split_at true true = refl
split_at true false = refl
split_at false true = refl
split_at false false = refl

pub ordered_lists : (patterns : List (List ℕ)) (text : List ℕ) → lists (in_row_order patterns) text ≡ lists patterns text
ordered_lists patterns text =
    list_any-append (λ listed. bytes_eq listed text) (filter (λ p. not (is_extension_pattern p)) (rising patterns)) (filter is_extension_pattern (rising patterns))
    ∙ ap₂ (λ a b. a || b) (passing_lists (λ p. not (is_extension_pattern p)) (rising patterns) text) (passing_lists is_extension_pattern (rising patterns) text)
    ∙ split_at (is_extension_pattern text) (lists (rising patterns) text) ∙ rising_lists patterns text

one_rises : (p : List ℕ) → IsRising (p ∷ [])
unfolding IsStrictlySortedBy
one_rises p = (tt, tt)

one_lists : (texts : List (List ℕ)) (p text : List ℕ) (same : Bool) → bytes_eq text p ≡ same → lists texts p ≡ true → (lists texts text && same) ≡ (bytes_eq p text || false)
one_lists texts p text true is there =
    ap (λ b. b && true) (ap (lists texts) ((bytes_eq-Decides text p).0 is) ∙ there)
    ∙ sym (ap (λ b. b || false) ((bytes_eq-Decides p text).1 (sym ((bytes_eq-Decides text p).0 is))))
one_lists texts p text false is there = no_and (lists texts text) ∙ sym (ap (λ b. b || false) (turned (bytes_eq p text) refl))
  where
    no_and : (a : Bool) → (a && false) ≡ false
    no_and true = refl
    no_and false = refl

    turned : (b : Bool) → bytes_eq p text ≡ b → bytes_eq p text ≡ false
    turned false h = h
    turned true h = absurd (false≢true (sym is ∙ (bytes_eq-Decides text p).1 (sym ((bytes_eq-Decides p text).0 h))))

once_in_rising : (patterns : List (List ℕ)) (p : List ℕ) → lists patterns p ≡ true → filter (λ text. bytes_eq text p) (rising patterns) ≡ p ∷ []
once_in_rising patterns p there =
    rising_same (filter (λ text. bytes_eq text p) (rising patterns)) (p ∷ []) (IsStrictlySortedBy-filter (slice_cmp nat_cmp) (λ text. bytes_eq text p) (rising patterns) (rising_rises patterns)) (one_rises p)
    (λ text. passing_lists (λ t. bytes_eq t p) (rising patterns) text ∙ one_lists (rising patterns) p text (bytes_eq text p) refl (rising_lists patterns p ∙ there))

swap_and : (a b : Bool) → (a && b) ≡ (b && a)
swap_and true true = refl
swap_and true false = refl
swap_and false true = refl
swap_and false false = refl

agree : {A : Type 0} (p q : A → Bool) → ((x : A) → p x ≡ q x) → (xs : List A) → filter p xs ≡ filter q xs
agree p q same [] = refl
agree p q same (x ∷ xs) = ap₂ (λ b rest. cond b (x ∷ rest) rest) (same x) (agree p q same xs)

swapped : (p q : List ℕ → Bool) (xs : List (List ℕ)) → filter p (filter q xs) ≡ filter q (filter p xs)
swapped p q xs = filter_twice p q xs ∙ agree (λ x. q x && p x) (λ x. p x && q x) (λ x. swap_and (q x) (p x)) xs ∙ sym (filter_twice q p xs)

parts_at : (p : List ℕ) (is : Bool) → cond (not is) (p ∷ []) [] ++ cond is (p ∷ []) [] ≡ p ∷ []
parts_at p true = refl
parts_at p false = refl

once_in_order : (patterns : List (List ℕ)) (p : List ℕ) → lists patterns p ≡ true → filter (λ text. bytes_eq text p) (in_row_order patterns) ≡ p ∷ []
once_in_order patterns p there =
    filter-append (λ text. bytes_eq text p) (filter (λ t. not (is_extension_pattern t)) (rising patterns)) (filter is_extension_pattern (rising patterns))
    ∙ ap₂ (λ xs ys. xs ++ ys)
    (swapped (λ text. bytes_eq text p) (λ t. not (is_extension_pattern t)) (rising patterns) ∙ ap (filter (λ t. not (is_extension_pattern t))) (once_in_rising patterns p there))
    (swapped (λ text. bytes_eq text p) is_extension_pattern (rising patterns) ∙ ap (filter is_extension_pattern) (once_in_rising patterns p there))
    ∙ parts_at p (is_extension_pattern p)

module _ (whose : Access → Option Caller) (constraints : List Constraint) (rules : Rules) where
  abbrev ordered : List (List ℕ)
  ordered = in_row_order (all_patterns constraints)

  abbrev last : List Row
  last = cond (match_every_path (all_patterns constraints)) [] (other_paths ∷ [])

  none_last : (closed : Bool) → row_patterns (cond closed [] (other_paths ∷ [])) ≡ []
  none_last true = refl
  none_last false = refl

  patterns_from : (texts : List (List ℕ)) (rest : List Row) → row_patterns (map (row_for whose constraints rules) texts ++ rest) ≡ texts ++ row_patterns rest
  patterns_from [] rest = refl
  patterns_from (text ∷ texts) rest = ap (λ others. text ∷ others) (patterns_from texts rest)

  patterns_are : row_patterns (table_for whose constraints rules).rows ≡ ordered
  patterns_are = patterns_from ordered last ∙ ap (λ ps. ordered ++ ps) (none_last (match_every_path (all_patterns constraints))) ∙ append-nil ordered

  same_best : BestIsOfTexts → (path : List ℕ) → best_pattern (row_patterns (table_for whose constraints rules).rows) path ≡ best_pattern (all_patterns constraints) path
  same_best best_same path = ap (λ ps. best_pattern ps path) patterns_are ∙ best_same ordered (all_patterns constraints) path (ordered_lists (all_patterns constraints))

  others_stop : (p : List ℕ) (closed : Bool) → filter (λ (row : Row). is_same row.pattern (Some p)) (cond closed [] (other_paths ∷ [])) ≡ []
  others_stop p true = refl
  others_stop p false = refl

  rows_of_pattern : (p : List ℕ) → lists (all_patterns constraints) p ≡ true → filter (λ (row : Row). is_same row.pattern (Some p)) (table_for whose constraints rules).rows ≡ row_for whose constraints rules p ∷ []
  rows_of_pattern p there =
      filter-append (λ (row : Row). is_same row.pattern (Some p)) (map (row_for whose constraints rules) ordered) last
      ∙ ap₂ (λ xs ys. xs ++ ys) (filter_map (row_for whose constraints rules) (λ (row : Row). is_same row.pattern (Some p)) ordered ∙ ap (map (row_for whose constraints rules)) (once_in_order (all_patterns constraints) p there))
      (others_stop p (match_every_path (all_patterns constraints)))

  rows_of_none : match_every_path (all_patterns constraints) ≡ false → filter (λ (row : Row). is_same row.pattern None) (table_for whose constraints rules).rows ≡ other_paths ∷ []
  rows_of_none some =
      filter-append (λ (row : Row). is_same row.pattern None) (map (row_for whose constraints rules) ordered) last
      ∙ ap₂ (λ xs ys. xs ++ ys) (filter_map (row_for whose constraints rules) (λ (row : Row). is_same row.pattern None) ordered ∙ ap (map (row_for whose constraints rules)) (filter_none (λ p. false) ordered (λ p. refl)))
      (ap (λ b. filter (λ (row : Row). is_same row.pattern None) (cond b [] (other_paths ∷ []))) some)

-- ---- A path without a match.
or_false : (a b : Bool) → a ≡ false → b ≡ false → (a || b) ≡ false
or_false a b p q = ap₂ (λ x y. x || y) p q

differ_at : (test : List ℕ → Bool) (x text : List ℕ) (same first : Bool) → bytes_eq x text ≡ same → test x ≡ first → first ≡ false → test text ≡ true → same ≡ false
differ_at test x text true first is was fails passes = absurd (false≢true (sym (was ∙ fails) ∙ ap test ((bytes_eq-Decides x text).0 is) ∙ passes))
differ_at test x text false first is was fails passes = refl

pub any_of : (test : List ℕ → Bool) (texts : List (List ℕ)) (text : List ℕ) → list_any test texts ≡ false → test text ≡ true → lists texts text ≡ false
any_of test [] text none passes = refl
any_of test (x ∷ texts) text none passes =
    or_false (bytes_eq x text) (lists texts text) (differ_at test x text (bytes_eq x text) (test x) refl refl ((or_parts (test x) (list_any test texts) none).0) passes)
    (any_of test texts text ((or_parts (test x) (list_any test texts) none).1) passes)

slash_matches : (path : List ℕ) → matches (codes "/") path ≡ true
unfolding form
slash_matches path = refl

pub root_matches : (path : List ℕ) → is_rooted path ≡ true → matches (codes "/*") path ≡ true
unfolding form
root_matches path rooted = rooted

no_match : BestExists → (patterns : List (List ℕ)) (path : List ℕ) → is_rooted path ≡ true → best_pattern patterns path ≡ None → match_every_path patterns ≡ false
no_match best_exists patterns path rooted none =
    let nothing : list_any (λ p. matches p path) patterns ≡ false = sym (best_exists patterns path) ∙ ap is_some none in
    or_false (lists patterns (codes "/")) (lists patterns (codes "/*")) (any_of (λ p. matches p path) patterns (codes "/") nothing (slash_matches path)) (any_of (λ p. matches p path) patterns (codes "/*") nothing (root_matches path rooted))

or_first : (a b : Bool) → a ≡ true → (a || b) ≡ true
or_first a b h = ap (λ x. x || b) h

pub in_texts : (texts : List (List ℕ)) (text : List ℕ) → Contains texts text → lists texts text ≡ true
in_texts [] text there = let no : ⊥ = omega (arith, there.1) in absurd no
in_texts (x ∷ texts) text (zero, within, is) = or_first (bytes_eq x text) (lists texts text) ((bytes_eq-Decides x text).1 is)
in_texts (x ∷ texts) text (suc i, within, is) = or_right (bytes_eq x text) (lists texts text) (in_texts texts text (i, omega (arith, within), is))

-- ---- The cell of a method and a path.
module _ (best_exists : BestExists) (best_is_a_match : BestIsAMatch) (best_same : BestIsOfTexts) (whose : Access → Option Caller) (constraints : List Constraint) (rules : Rules) (method path : List ℕ) (rooted : is_rooted path ≡ true) where
  abbrev its_cell : Option (List ℕ) → Cell
  its_cell best = cell_for whose rules best (covering constraints best method)

  none_cell : cell_for whose rules None [] ≡ record { access = access_at rules None []; constraint = None }
  unfolding cell_for
  none_cell = refl

  cells_at : (best : Option (List ℕ)) → best_pattern (all_patterns constraints) path ≡ best → flat_map (cells_in method) (filter (λ (row : Row). is_same row.pattern best) (table_for whose constraints rules).rows) ≡ its_cell best ∷ []
  cells_at None is = ap (flat_map (cells_in method)) (rows_of_none whose constraints rules (no_match best_exists (all_patterns constraints) path rooted is)) ∙ ap (λ (cell : Cell). cell ∷ []) (sym none_cell)
  cells_at (Some p) is =
      ap (flat_map (cells_in method)) (rows_of_pattern whose constraints rules p (in_texts (all_patterns constraints) p (best_is_a_match (all_patterns constraints) path p is).0))
      ∙ append-nil (cells_in method (row_for whose constraints rules p)) ∙ row_cell whose constraints rules p method

  pub cells_are : cells_for (table_for whose constraints rules) method path ≡ its_cell (best_pattern (all_patterns constraints) path) ∷ []
  cells_are =
      ap (λ best. flat_map (cells_in method) (filter (λ (row : Row). is_same row.pattern best) (table_for whose constraints rules).rows)) (same_best whose constraints rules best_same path)
      ∙ cells_at (best_pattern (all_patterns constraints) path) refl

pub answers : BestExists → BestIsAMatch → BestIsOfTexts → TablesAreRight
unfolding cell_for
answers best_exists best_is_a_match best_same whose constraints rules method path caller rooted =
    ap (map (λ (cell : Cell). said_to caller cell.access)) (cells_are best_exists best_is_a_match best_same whose constraints rules method path rooted)
    ∙ ap (λ answer. answer ∷ []) (said rules caller (best_pattern (all_patterns constraints) path) (covering constraints (best_pattern (all_patterns constraints) path) method))

pub numbers : BestExists → BestIsAMatch → BestIsOfTexts → NumbersAreRight
unfolding cell_for
numbers best_exists best_is_a_match best_same whose constraints rules method path rooted =
    rw (cells_are best_exists best_is_a_match best_same whose constraints rules method path rooted)
    (All-cons (λ (cell : Cell). cell.constraint ≡ (why_of (verdict constraints rules method path (whose cell.access))).number)
    (cell_for whose rules (best_pattern (all_patterns constraints) path) (covering constraints (best_pattern (all_patterns constraints) path) method)) [] refl
    (All-nil (λ (cell : Cell). cell.constraint ≡ (why_of (verdict constraints rules method path (whose cell.access))).number)))
