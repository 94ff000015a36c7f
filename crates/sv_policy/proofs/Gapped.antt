-- The gaps of tables are those of their constraints.
use Rattle.std.proofs.lemmas.Bool.{false≢true}
use Rattle.std.proofs.Common.{subst, ◌≡◌, ℕ, ◌+◌, ◌<◌, ◌≤◌, Bool, true, false, ◌||◌, ◌&&◌, List, [], ◌∷◌, ◌++◌, length, take, get_or, map, refl, ap, sym, ◌∙◌, cond, arith, not, ◌==◌}
use Rattle.std.specs.Borrow.{Bor}
use Rattle.std.specs.Prelude.{All, Contains, filter}
use Rattle.std.specs.List.{list_any}
use Rattle.std.specs.Str.{bytes_eq}
use Rattle.std.proofs.lemmas.List.{map-append, take_all}
use Rattle.std.proofs.lemmas.List.Elements.{All-cons, filter-append}
use Rattle.std.proofs.lemmas.List.Kept.{IsStrictlySortedBy-filter}
use Rattle.std.proofs.lemmas.Slice.Eq.{bytes_eq-Decides}
use Rattle.std.specs.Cmp.Lexicographic.{slice_cmp}
use Rattle.std.specs.Ordering.{nat_cmp}
use Rattle.sv_constraints.specs.Covering.{all_patterns, covers_method, lists}
use Rattle.sv_constraints.specs.declared.constraint.Constraint.{Constraint}
use Rattle.sv_constraints.specs.declared.constraint.Methods.{Methods}
use Rattle.sv_constraints.specs.declared.constraint.Methods.TheVariants as methods
use Rattle.sv_policy.specs.Covering.{method_names, named_methods}
use Rattle.sv_policy.specs.MergedLaws.{RisingHasTheTexts, RisingIsAlone, RisingRises, UncoveredIsExact, UncoveredRises}
use Rattle.sv_policy.specs.Uncovered.{IsRising, are_others_uncovered, has_methods, is_uncovered, rising, uncovered_methods}
use Rattle.sv_policy.specs.declared.table.Table.{Table}
use Rattle.sv_policy.proofs.Whole.{all_none}
use Rattle.sv_policy.specs.Gaps.{GapsAreExact, GapsRise, gap_at, holds, is_all}
use Rattle.sv_policy.specs.declared.gaps.Gap.{Gap}
use Rattle.sv_policy.proofs.Steps.{seen_more}

-- A table from a list of correct tables is correct.
pub whole_among : (P : Table → Type 0) (all : List Table) (table : Table) → All P all → Contains all table → P table
whole_among P all table every there = subst P there.2 (every there.0 table there.1)

pub among_at : (all : List Table) (ordered slice : List (Bor Table)) (i : ℕ) (t : Bor Table) → slice ≡ ordered → i < length slice → t ≡ get_or slice i t → All (λ x. Contains all x.now) ordered → Contains all t.now
among_at all ordered slice i t same within at_i every =
    subst (λ (x : Bor Table). Contains all x.now) (sym at_i) (subst (All (λ (x : Bor Table). Contains all x.now)) (sym same) every i t within)

-- The next gap of a loop.
pub gaps_more : (has : Gap → Bool) (make : List ℕ → Gap) (ordered : List (Bor Table)) (i : ℕ) (t : Bor Table) (before after : List Gap) → i < length ordered → t ≡ get_or ordered i t
    → before ≡ filter has (map make (map (λ table. table.now.pattern) (take i ordered))) → after ≡ before ++ cond (has (make t.now.pattern)) (make t.now.pattern ∷ []) []
    → after ≡ filter has (map make (map (λ table. table.now.pattern) (take (i + 1) ordered)))
gaps_more has make ordered i t before after within at_i was pushed =
    pushed ∙ ap (λ gaps_before. gaps_before ++ cond (has (make t.now.pattern)) (make t.now.pattern ∷ []) []) was
    ∙ sym (ap (λ texts. filter has (map make texts)) (seen_more (λ table. table.now.pattern) ordered i t within at_i)
    ∙ ap (filter has) (map-append make (map (λ table. table.now.pattern) (take i ordered)) (t.now.pattern ∷ []))
    ∙ filter-append has (map make (map (λ table. table.now.pattern) (take i ordered))) (make t.now.pattern ∷ []))

-- Lists with the same texts have the same sorted list.
pub same_rising : RisingRises → RisingHasTheTexts → RisingIsAlone → (xs ys : List (List ℕ)) → ((text : List ℕ) → lists xs text ≡ lists ys text) → rising xs ≡ rising ys
same_rising rising_rises rising_lists rising_same xs ys same = rising_same (rising xs) (rising ys) (rising_rises xs) (rising_rises ys) (λ text. rising_lists xs text ∙ same text ∙ sym (rising_lists ys text))

-- The gaps after all tables.
pub gaps_all : RisingRises → RisingHasTheTexts → RisingIsAlone → (has : Gap → Bool) (make : List ℕ → Gap) (slice ordered : List (Bor Table)) (i : ℕ) (found : List Gap) (texts patterns : List (List ℕ)) → length slice ≤ i → slice ≡ ordered
    → found ≡ filter has (map make (map (λ table. table.now.pattern) (take i slice))) → map (λ (table : Bor Table). table.now.pattern) ordered ≡ rising texts → ((text : List ℕ) → lists texts text ≡ lists patterns text)
    → found ≡ filter has (map make (rising patterns))
gaps_all rising_rises rising_lists rising_same has make slice ordered i found texts patterns ended same is are listed =
    is ∙ ap (λ (tables : List (Bor Table)). filter has (map make (map (λ table. table.now.pattern) tables))) (take_all i slice ended ∙ same)
    ∙ ap (λ ps. filter has (map make ps)) (are ∙ same_rising rising_rises rising_lists rising_same texts patterns listed)

-- ---- A gap contains exactly the uncovered methods of its pattern.
none_held : (found : Methods) (method : List ℕ) → has_methods found ≡ false → covers_method found method ≡ false
none_held methods.All method none = absurd (false≢true (sym none))
none_held (methods.Only []) method none = refl
none_held (methods.Only (x ∷ xs)) method none = let some : not (length (x ∷ xs) == 0) ≡ true = grind arith in absurd (false≢true (sym none ∙ some))
none_held (methods.Except listed) method none = absurd (false≢true (sym none))

absorbed : (a u : Bool) → (u || (a && u)) ≡ u
absorbed a true = refl
absorbed true false = refl
absorbed false false = refl

nothing : (a u : Bool) → u ≡ false → (a && u) ≡ u
nothing true u is = refl
nothing false u is = sym is

step : (has same covered listed u : Bool) (gap : Gap) (rest : List Gap) (test : Gap → Bool) → test gap ≡ (same && covered) → (same ≡ true → covered ≡ u) → (has ≡ false → covered ≡ false) → list_any test rest ≡ (listed && u)
    → list_any test (cond has (gap ∷ rest) rest) ≡ ((same || listed) && u)
step true true covered listed u gap rest test is meets misses below = ap (λ b. b || list_any test rest) (is ∙ meets refl) ∙ ap (λ b. u || b) below ∙ absorbed listed u
step true false covered listed u gap rest test is meets misses below = ap (λ b. b || list_any test rest) is ∙ below
step false true covered listed u gap rest test is meets misses below = below ∙ nothing listed u (sym (meets refl) ∙ misses refl)
step false false covered listed u gap rest test is meets misses below = below

held_in : UncoveredIsExact → (constraints : List Constraint) (pattern method : List ℕ) (texts : List (List ℕ)) → holds (filter (λ gap. has_methods gap.methods) (map (gap_at constraints) texts)) pattern method ≡ (lists texts pattern && is_uncovered constraints pattern method)
held_in uncovered_exact constraints pattern method [] = refl
held_in uncovered_exact constraints pattern method (text ∷ texts) =
    step (has_methods (uncovered_methods constraints text)) (bytes_eq text pattern) (covers_method (uncovered_methods constraints text) method) (lists texts pattern) (is_uncovered constraints pattern method) (gap_at constraints text)
    (filter (λ gap. has_methods gap.methods) (map (gap_at constraints) texts)) (λ gap. bytes_eq gap.pattern pattern && covers_method gap.methods method) refl
    (λ same. ap (λ p. covers_method (uncovered_methods constraints p) method) ((bytes_eq-Decides text pattern).0 same) ∙ uncovered_exact constraints pattern method)
    (none_held (uncovered_methods constraints text) method) (held_in uncovered_exact constraints pattern method texts)

pub gaps_exact : RisingHasTheTexts → UncoveredIsExact → GapsAreExact
gaps_exact rising_lists uncovered_exact constraints pattern method =
    held_in uncovered_exact constraints pattern method (rising (all_patterns constraints))
    ∙ ap (λ b. b && is_uncovered constraints pattern method) (rising_lists (all_patterns constraints) pattern)

-- ---- The gaps are in ascending order.
pattern_at : (gap : Gap) (has : Bool) (rest : List Gap) (others : List (List ℕ)) → map (λ g. g.pattern) rest ≡ others → map (λ (g : Gap). g.pattern) (cond has (gap ∷ rest) rest) ≡ cond has (gap.pattern ∷ others) others
pattern_at gap true rest others is = ap (λ ps. gap.pattern ∷ ps) is
pattern_at gap false rest others is = is

patterns_of : (constraints : List Constraint) (texts : List (List ℕ)) → map (λ (g : Gap). g.pattern) (filter (λ gap. has_methods gap.methods) (map (gap_at constraints) texts)) ≡ filter (λ text. has_methods (uncovered_methods constraints text)) texts
patterns_of constraints [] = refl
patterns_of constraints (text ∷ texts) = pattern_at (gap_at constraints text) (has_methods (uncovered_methods constraints text)) (filter (λ gap. has_methods gap.methods) (map (gap_at constraints) texts)) (filter (λ t. has_methods (uncovered_methods constraints t)) texts) (patterns_of constraints texts)

not_all_at : (constraints : List Constraint) (text : List ℕ) (others : Bool) → is_all (cond others (methods.Except (filter (λ m. not (is_uncovered constraints text m)) (rising (named_methods constraints text)))) (methods.Only (filter (is_uncovered constraints text) (rising (named_methods constraints text))))) ≡ false
not_all_at constraints text true = refl
not_all_at constraints text false = refl

abbrev Lists : Gap → Type 0
Lists gap = IsRising (method_names gap.methods) × (is_all gap.methods ≡ false)

lists_at : (gap : Gap) (has : Bool) (rest : List Gap) → Lists gap → All Lists rest → All Lists (cond has (gap ∷ rest) rest)
lists_at gap true rest first all = All-cons Lists gap rest first all
lists_at gap false rest first all = all

lists_all : UncoveredRises → (constraints : List Constraint) (texts : List (List ℕ)) → All Lists (filter (λ gap. has_methods gap.methods) (map (gap_at constraints) texts))
lists_all uncovered_rise constraints [] = all_none Lists
lists_all uncovered_rise constraints (text ∷ texts) =
    lists_at (gap_at constraints text) (has_methods (uncovered_methods constraints text)) (filter (λ gap. has_methods gap.methods) (map (gap_at constraints) texts))
    (uncovered_rise constraints text, not_all_at constraints text (are_others_uncovered constraints text)) (lists_all uncovered_rise constraints texts)

pub gaps_rising : RisingRises → UncoveredRises → GapsRise
gaps_rising rising_rises uncovered_rise constraints = (
  subst IsRising (sym (patterns_of constraints (rising (all_patterns constraints))))
      (IsStrictlySortedBy-filter (slice_cmp nat_cmp) (λ text. has_methods (uncovered_methods constraints text)) (rising (all_patterns constraints)) (rising_rises (all_patterns constraints))),
  lists_all uncovered_rise constraints (rising (all_patterns constraints)),
)
