-- The uncovered methods at a pattern.
use Rattle.std.proofs.lemmas.Bool.{false≢true}
use Rattle.std.proofs.Common.{arith, ◌≡◌, ℕ, zero, suc, ◌+◌, ◌<◌, Bool, true, false, not, ◌||◌, ◌&&◌, List, [], ◌∷◌, ◌++◌, length, refl, ap, ap₂, sym, ◌∙◌, Option, Some, None, cond, is_none, nat_cmp, ◌==◌}
use Rattle.std.specs.Prelude.{filter, unwrap_or}
use Rattle.std.specs.Cmp.Lexicographic.{slice_cmp}
use Rattle.std.specs.List.{list_any}
use Rattle.std.specs.Option.{option_map_or}
use Rattle.std.specs.Str.{bytes_eq}
use Rattle.std.proofs.lemmas.List.Folds.{list_any-append}
use Rattle.std.proofs.lemmas.List.Kept.{IsStrictlySortedBy-filter}
use Rattle.std.proofs.lemmas.Slice.Eq.{bytes_eq-Decides}
use Rattle.sv_constraints.specs.Covering.{covers, covers_method, lists}
use Rattle.sv_constraints.specs.Verdict.{least_number}
use Rattle.sv_constraints.specs.declared.constraint.Constraint.{Constraint}
use Rattle.sv_constraints.specs.declared.constraint.Methods.TheVariants.{Except, Only}
use Rattle.sv_constraints.specs.declared.findings.Findings.{Findings}
use Rattle.sv_constraints.specs.declared.constraint.Rules.{Rules}
use Rattle.sv_policy.proofs.Steps.{filter_same, passing_lists}
use Rattle.sv_policy.proofs.Named.{first_false, second_false, unnamed_members}
use Rattle.sv_policy.proofs.Rising.{rising_lists, rising_rises, rising_same}
use Rattle.sv_policy.specs.Covering.{covers_unnamed, method_names, named_methods}
use Rattle.sv_policy.specs.Merged.{IsMerged}
use Rattle.sv_policy.specs.Uncovered.{IsRising, are_others_uncovered, differ, is_bare, is_uncovered, rising, uncovered_methods}
use Rattle.sv_policy.specs.declared.merged.Merged.{Merged}

-- A text that is not in a list, since it is longer than all its texts together.
abbrev total : List (List ℕ) → ℕ
total [] = 0
total (text ∷ texts) = length text + total texts

abbrev zeros : ℕ → List ℕ
zeros zero = []
zeros (suc n) = 0 ∷ zeros n

length_zeros : (n : ℕ) → length (zeros n) ≡ n
length_zeros zero = refl
length_zeros (suc n) = let below : length (zeros n) ≡ n = length_zeros n in grind (arith, below)

shorter : (text other : List ℕ) (same : Bool) → bytes_eq text other ≡ same → length text < length other → same ≡ false
shorter text other true is less = let equal : length text ≡ length other = ap length ((bytes_eq-Decides text other).0 is) in absurd (omega (arith, equal, less))
shorter text other false is less = refl

longer_absent : (texts : List (List ℕ)) (other : List ℕ) → total texts < length other → lists texts other ≡ false
longer_absent [] other less = refl
longer_absent (text ∷ texts) other less = ap (λ b. b || lists texts other) (shorter text other (bytes_eq text other) refl (omega (arith, less))) ∙ longer_absent texts other (omega (arith, less))

abbrev fresh : List (List ℕ) → List ℕ
fresh texts = zeros (suc (total texts))

fresh_absent : (texts : List (List ℕ)) → lists texts (fresh texts) ≡ false
fresh_absent texts = longer_absent texts (fresh texts) (let whole : length (zeros (suc (total texts))) ≡ suc (total texts) = length_zeros (suc (total texts)) in omega (arith, whole))

-- There is no least number exactly if there are no constraints.
none_least : (members : List Constraint) → is_none (least_number members) ≡ (length members == 0)
none_least [] = refl
none_least (c ∷ members) = grind arith

bare_at : (rules : Rules) (members : List Constraint) (merged : Merged) → IsMerged rules members merged → is_bare merged ≡ (length members == 0)
bare_at rules members merged is = ap (λ (found : Findings). is_none found.covering) is.found ∙ none_least members

cond_empty : {X : Type 0} (b : Bool) (x : X) (xs : List X) (rest : Bool) → (length xs == 0) ≡ not rest → (length (cond b (x ∷ xs) xs) == 0) ≡ not (b || rest)
cond_empty true x xs rest is = grind arith
cond_empty false x xs rest is = is

empty_filter : {X : Type 0} (test : X → Bool) (xs : List X) → (length (filter test xs) == 0) ≡ not (list_any test xs)
empty_filter test [] = refl
empty_filter test (x ∷ xs) = cond_empty (test x) x (filter test xs) (list_any test xs) (empty_filter test xs)

and_none : (a : Bool) → (a && false) ≡ false
and_none true = refl
and_none false = refl

differ_same : (a : Bool) → differ a a ≡ false
differ_same true = refl
differ_same false = refl

differ_true : (a : Bool) → differ a true ≡ not a
differ_true true = refl
differ_true false = refl

differ_false : (a : Bool) → differ a false ≡ a
differ_false true = refl
differ_false false = refl

-- A method that is not named is uncovered exactly if the unnamed methods are.
unnamed_uncovered : (constraints : List Constraint) (pattern method : List ℕ) → lists (named_methods constraints pattern) method ≡ false → is_uncovered constraints pattern method ≡ are_others_uncovered constraints pattern
unnamed_uncovered constraints pattern method unnamed =
    ap (λ members. length members == 0) (sym (unnamed_members pattern method constraints unnamed))
    ∙ empty_filter (λ member. covers_unnamed member pattern) constraints

not_not : (a : Bool) → not (not a) ≡ a
not_not true = refl
not_not false = refl

listed_at : (constraints : List Constraint) (pattern method : List ℕ) (test : List ℕ → Bool) → lists (filter test (rising (named_methods constraints pattern))) method ≡ (lists (named_methods constraints pattern) method && test method)
listed_at constraints pattern method test = passing_lists test (rising (named_methods constraints pattern)) method ∙ ap (λ b. b && test method) (rising_lists (named_methods constraints pattern) method)

held_at : (constraints : List Constraint) (pattern method : List ℕ) (others named : Bool) → are_others_uncovered constraints pattern ≡ others → lists (named_methods constraints pattern) method ≡ named
    → covers_method (cond others (Except (filter (λ m. not (is_uncovered constraints pattern m)) (rising (named_methods constraints pattern)))) (Only (filter (is_uncovered constraints pattern) (rising (named_methods constraints pattern))))) method ≡ is_uncovered constraints pattern method
held_at constraints pattern method true true is named =
    ap not (listed_at constraints pattern method (λ m. not (is_uncovered constraints pattern m)) ∙ ap (λ b. b && not (is_uncovered constraints pattern method)) named) ∙ not_not (is_uncovered constraints pattern method)
held_at constraints pattern method true false is named =
    ap not (listed_at constraints pattern method (λ m. not (is_uncovered constraints pattern m)) ∙ ap (λ b. b && not (is_uncovered constraints pattern method)) named) ∙ sym (unnamed_uncovered constraints pattern method named ∙ is)
held_at constraints pattern method false true is named =
    listed_at constraints pattern method (is_uncovered constraints pattern) ∙ ap (λ b. b && is_uncovered constraints pattern method) named
held_at constraints pattern method false false is named =
    listed_at constraints pattern method (is_uncovered constraints pattern) ∙ ap (λ b. b && is_uncovered constraints pattern method) named ∙ sym (unnamed_uncovered constraints pattern method named ∙ is)

-- The uncovered methods are exactly those that no constraint covers.
pub uncovered_exact : (constraints : List Constraint) (pattern method : List ℕ) → covers_method (uncovered_methods constraints pattern) method ≡ is_uncovered constraints pattern method
uncovered_exact constraints pattern method = held_at constraints pattern method (are_others_uncovered constraints pattern) (lists (named_methods constraints pattern) method) refl refl

-- The names of the uncovered methods are strictly ascending.
names_rise : (constraints : List Constraint) (pattern : List ℕ) (others : Bool)
    → IsRising (method_names (cond others (Except (filter (λ m. not (is_uncovered constraints pattern m)) (rising (named_methods constraints pattern)))) (Only (filter (is_uncovered constraints pattern) (rising (named_methods constraints pattern))))))
names_rise constraints pattern true = IsStrictlySortedBy-filter (slice_cmp nat_cmp) (λ m. not (is_uncovered constraints pattern m)) (rising (named_methods constraints pattern)) (rising_rises (named_methods constraints pattern))
names_rise constraints pattern false = IsStrictlySortedBy-filter (slice_cmp nat_cmp) (is_uncovered constraints pattern) (rising (named_methods constraints pattern)) (rising_rises (named_methods constraints pattern))

pub uncovered_rise : (constraints : List Constraint) (pattern : List ℕ) → IsRising (method_names (uncovered_methods constraints pattern))
uncovered_rise constraints pattern = names_rise constraints pattern (are_others_uncovered constraints pattern)

module _ (rules : Rules) (constraints : List Constraint) (pattern : List ℕ) (get : List ℕ → Option Merged) (rest : Merged) (whole : (method : List ℕ) → IsMerged rules (filter (λ c. covers c pattern method) constraints) (unwrap_or (get method) rest)) where
  bare_uncovered : (method : List ℕ) → is_bare (unwrap_or (get method) rest) ≡ is_uncovered constraints pattern method
  bare_uncovered method = bare_at rules (filter (λ c. covers c pattern method) constraints) (unwrap_or (get method) rest) (whole method)

  -- The entry for all other methods is empty exactly if the unnamed methods are uncovered.
  rest_at : (names : List (List ℕ)) → ((method : List ℕ) → lists names method ≡ option_map_or (λ entry. differ (is_bare entry) (is_bare rest)) (get method) false) → (method : List ℕ) → lists (named_methods constraints pattern) method ≡ false → (found : Option Merged) → get method ≡ found → lists names method ≡ false → is_bare rest ≡ are_others_uncovered constraints pattern
  rest_at names are method unnamed None at absent =
      ap (λ found. is_bare (unwrap_or found rest)) (sym at) ∙ bare_uncovered method ∙ unnamed_uncovered constraints pattern method unnamed
  rest_at names are method unnamed (Some entry) at absent =
      agree (is_bare entry) (is_bare rest) (sym (ap (λ found. option_map_or (λ e. differ (is_bare e) (is_bare rest)) found false) at) ∙ sym (are method) ∙ absent)
      ∙ ap (λ found. is_bare (unwrap_or found rest)) (sym at) ∙ bare_uncovered method ∙ unnamed_uncovered constraints pattern method unnamed
    where
      agree : (a b : Bool) → differ a b ≡ false → b ≡ a
      agree true true h = refl
      agree true false h = absurd (false≢true (sym h))
      agree false true h = absurd (false≢true (sym h))
      agree false false h = refl

  module _ (names : List (List ℕ)) (rises : IsRising names) (are : (method : List ℕ) → lists names method ≡ option_map_or (λ entry. differ (is_bare entry) (is_bare rest)) (get method) false) where
    abbrev unknown : List ℕ
    unknown = fresh (names ++ named_methods constraints pattern)

    none_known : (lists names unknown || lists (named_methods constraints pattern) unknown) ≡ false
    none_known = sym (list_any-append (λ listed. bytes_eq listed unknown) names (named_methods constraints pattern)) ∙ fresh_absent (names ++ named_methods constraints pattern)

    rest_others : is_bare rest ≡ are_others_uncovered constraints pattern
    rest_others =
        rest_at names are unknown (second_false (lists names unknown) (lists (named_methods constraints pattern) unknown) none_known) (get unknown) refl
        (first_false (lists names unknown) (lists (named_methods constraints pattern) unknown) none_known)

    abbrev is_exceptional : List ℕ → Bool
    is_exceptional method = differ (is_uncovered constraints pattern method) (are_others_uncovered constraints pattern)

    member_at : (method : List ℕ) (named : Bool) (found : Option Merged) → lists (named_methods constraints pattern) method ≡ named → get method ≡ found → option_map_or (λ entry. differ (is_bare entry) (is_bare rest)) found false ≡ (named && is_exceptional method)
    member_at method named None is at =
        sym (and_none named)
        ∙ ap (λ b. named && b) (sym (differ_same (are_others_uncovered constraints pattern)) ∙ ap (λ u. differ u (are_others_uncovered constraints pattern)) (sym rest_others ∙ ap (λ found. is_bare (unwrap_or found rest)) (sym at) ∙ bare_uncovered method))
    member_at method true (Some entry) is at =
        ap₂ differ (ap (λ found. is_bare (unwrap_or found rest)) (sym at) ∙ bare_uncovered method) rest_others
    member_at method false (Some entry) is at =
        ap₂ differ (ap (λ found. is_bare (unwrap_or found rest)) (sym at) ∙ bare_uncovered method ∙ unnamed_uncovered constraints pattern method is) rest_others
        ∙ differ_same (are_others_uncovered constraints pattern)

    members : (method : List ℕ) → lists names method ≡ lists (filter is_exceptional (rising (named_methods constraints pattern))) method
    members method =
        are method ∙ member_at method (lists (named_methods constraints pattern) method) (get method) refl refl
        ∙ ap (λ b. b && is_exceptional method) (sym (rising_lists (named_methods constraints pattern) method))
        ∙ sym (passing_lists is_exceptional (rising (named_methods constraints pattern)) method)

    names_are : names ≡ filter is_exceptional (rising (named_methods constraints pattern))
    names_are = rising_same names (filter is_exceptional (rising (named_methods constraints pattern))) rises
        (IsStrictlySortedBy-filter (slice_cmp nat_cmp) is_exceptional (rising (named_methods constraints pattern)) (rising_rises (named_methods constraints pattern))) members

    uncovered_at : (others : Bool) → are_others_uncovered constraints pattern ≡ others → cond others (Except names) (Only names) ≡ uncovered_methods constraints pattern
    uncovered_at true is =
        ap Except (names_are ∙ filter_same is_exceptional (λ m. not (is_uncovered constraints pattern m)) (λ m. ap (differ (is_uncovered constraints pattern m)) is ∙ differ_true (is_uncovered constraints pattern m)) (rising (named_methods constraints pattern)))
        ∙ ap (λ b. cond b (Except (filter (λ m. not (is_uncovered constraints pattern m)) (rising (named_methods constraints pattern)))) (Only (filter (is_uncovered constraints pattern) (rising (named_methods constraints pattern))))) (sym is)
    uncovered_at false is =
        ap Only (names_are ∙ filter_same is_exceptional (is_uncovered constraints pattern) (λ m. ap (differ (is_uncovered constraints pattern m)) is ∙ differ_false (is_uncovered constraints pattern m)) (rising (named_methods constraints pattern)))
        ∙ ap (λ b. cond b (Except (filter (λ m. not (is_uncovered constraints pattern m)) (rising (named_methods constraints pattern)))) (Only (filter (is_uncovered constraints pattern) (rising (named_methods constraints pattern))))) (sym is)

    -- The entries that differ from the one for all other methods are exactly the covered named methods, or exactly the
    -- uncovered ones.
    pub uncovered_is : (bare : Bool) → is_bare rest ≡ bare → cond bare (Except names) (Only names) ≡ uncovered_methods constraints pattern
    uncovered_is bare is = uncovered_at bare (sym rest_others ∙ is)
