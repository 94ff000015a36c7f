-- The named methods that are covered if the unnamed ones are not, or uncovered if the unnamed ones are covered.
use Rattle.std.proofs.Common.{◌≡◌, ℕ, Bool, true, false, ◌||◌, List, [], ◌∷◌, ◌++◌, map, refl, ap, sym, ◌∙◌, Option, Some, cond, nat_cmp, Less, string_bytes, string_cmp, String, Global}
use Rattle.std.specs.Prelude.{filter}
use Rattle.std.specs.BTreeMap.{is_at}
use Rattle.std.specs.Cmp.Lexicographic.{slice_cmp}
use Rattle.std.specs.List.{AllByRecursion}
use Rattle.std.specs.List.Sorted.{IsStrictlySortedBy}
use Rattle.std.specs.Map.{lookup, keys_of}
use Rattle.std.specs.Option.{option_map, option_map_or}
use Rattle.std.specs.Str.{bytes_eq}
use Rattle.std.specs.declared.boxed.Box.{Box}
use Rattle.std.proofs.lemmas.List.{map-append}
use Rattle.std.proofs.lemmas.List.Elements.{filter-append}
use Rattle.std.proofs.lemmas.Map.Text.{is_eq-slice_cmp}
use Rattle.std.proofs.lemmas.Bool.Decides.{same_from_decides}
use Rattle.std.proofs.lemmas.Slice.Eq.{bytes_eq-Decides}
use Rattle.sv_constraints.specs.Covering.{lists}
use Rattle.sv_policy.proofs.Rising.{absent_below, same_text}
use Rattle.sv_policy.specs.Uncovered.{differ, is_bare}
use Rattle.sv_policy.specs.declared.merged.Merged.{Merged}

abbrev pub Entry : Type 0
Entry = String Global × Box Merged Global

abbrev pub is_exception : Merged → Entry → Bool
is_exception rest entry = differ (is_bare entry.1.value) (is_bare rest)

-- The names of the entries that differ from the entry for all other methods.
abbrev pub excepted : Merged → List Entry → List (List ℕ)
excepted rest entries = map (λ entry. string_bytes entry.0) (filter (is_exception rest) entries)

-- The names after one more entry, which differs or does not.
more_at : (rest : Merged) (before : List Entry) (entry : Entry) (is : Bool) → map (λ e. string_bytes e.0) (filter (is_exception rest) before ++ cond is (entry ∷ []) []) ≡ excepted rest before ++ cond is (string_bytes entry.0 ∷ []) []
more_at rest before entry true = map-append (λ e. string_bytes e.0) (filter (is_exception rest) before) (entry ∷ [])
more_at rest before entry false = map-append (λ e. string_bytes e.0) (filter (is_exception rest) before) []

one_at : (rest : Merged) (entry : Entry) → filter (is_exception rest) (entry ∷ []) ≡ cond (is_exception rest entry) (entry ∷ []) []
one_at rest entry = refl

pub excepted_more : (rest : Merged) (before : List Entry) (entry : Entry) → excepted rest (before ++ entry ∷ []) ≡ excepted rest before ++ cond (is_exception rest entry) (string_bytes entry.0 ∷ []) []
excepted_more rest before entry = ap (map (λ e. string_bytes e.0)) (filter-append (is_exception rest) before (entry ∷ [])) ∙ more_at rest before entry (is_exception rest entry)

-- A name that sorts before all keys sorts before all names.
above_at : (k : List ℕ) (e : Entry) (rest : List Entry) (is : Bool) → slice_cmp nat_cmp k (string_bytes e.0) ≡ Less → AllByRecursion (λ other. slice_cmp nat_cmp k other ≡ Less) (map (λ x. string_bytes x.0) rest) → AllByRecursion (λ other. slice_cmp nat_cmp k other ≡ Less) (map (λ x. string_bytes x.0) (cond is (e ∷ rest) rest))
above_at k e rest true less above = (less, above)
above_at k e rest false less above = above

excepted_above : (rest : Merged) (k : String Global) (es : List Entry) → AllByRecursion (λ y. string_cmp k y ≡ Less) (keys_of es) → AllByRecursion (λ other. slice_cmp nat_cmp (string_bytes k) other ≡ Less) (excepted rest es)
excepted_above rest k [] above = tt
excepted_above rest k (e ∷ es) above = above_at (string_bytes k) e (filter (is_exception rest) es) (is_exception rest e) above.0 (excepted_above rest k es above.1)

rises_at : (e : Entry) (rest : List Entry) (is : Bool) → AllByRecursion (λ other. slice_cmp nat_cmp (string_bytes e.0) other ≡ Less) (map (λ x. string_bytes x.0) rest) → IsStrictlySortedBy (slice_cmp nat_cmp) (map (λ x. string_bytes x.0) rest) → IsStrictlySortedBy (slice_cmp nat_cmp) (map (λ x. string_bytes x.0) (cond is (e ∷ rest) rest))
unfolding IsStrictlySortedBy
rises_at e rest true above rises = (above, rises)
rises_at e rest false above rises = rises

-- The names are strictly ascending if the keys are.
pub excepted_rises : (rest : Merged) (es : List Entry) → IsStrictlySortedBy string_cmp (keys_of es) → IsStrictlySortedBy (slice_cmp nat_cmp) (excepted rest es)
unfolding IsStrictlySortedBy
excepted_rises rest [] sorted = tt
excepted_rises rest (e ∷ es) sorted = rises_at e (filter (is_exception rest) es) (is_exception rest e) (excepted_above rest e.0 es sorted.0) (excepted_rises rest es sorted.1)

abbrev differing : Merged → Option (Box Merged Global) → Bool
differing rest found = option_map_or (λ entry. differ (is_bare entry) (is_bare rest)) (option_map (λ entry. entry.value) found) false

here_at : (rest : Merged) (e : Entry) (others : List Entry) (method : List ℕ) (is : Bool) → is_exception rest e ≡ is → string_bytes e.0 ≡ method → lists (map (λ x. string_bytes x.0) others) method ≡ false → lists (map (λ x. string_bytes x.0) (cond is (e ∷ others) others)) method ≡ is_exception rest e
here_at rest e others method true is same absent = ap (λ b. b || lists (map (λ x. string_bytes x.0) others) method) (ap (λ t. bytes_eq t method) same ∙ same_text method) ∙ sym is
here_at rest e others method false is same absent = absent ∙ sym is

there_at : (e : Entry) (others : List Entry) (method : List ℕ) (is found : Bool) → bytes_eq (string_bytes e.0) method ≡ false → lists (map (λ x. string_bytes x.0) others) method ≡ found → lists (map (λ x. string_bytes x.0) (cond is (e ∷ others) others)) method ≡ found
there_at e others method true found apart is = ap (λ b. b || lists (map (λ x. string_bytes x.0) others) method) apart ∙ is
there_at e others method false found apart is = is

lists_at : (rest : Merged) (e : Entry) (es : List Entry) (method : List ℕ) (same : Bool) → bytes_eq method (string_bytes e.0) ≡ same → AllByRecursion (λ y. string_cmp e.0 y ≡ Less) (keys_of es)
    → lists (excepted rest es) method ≡ differing rest (lookup (is_at (λ k. slice_cmp nat_cmp method (string_bytes k))) es)
    → lists (excepted rest (e ∷ es)) method ≡ differing rest (cond same (Some e.1) (lookup (is_at (λ k. slice_cmp nat_cmp method (string_bytes k))) es))
lists_at rest e es method true at above more =
    let same : string_bytes e.0 ≡ method = sym ((bytes_eq-Decides method (string_bytes e.0)).0 at) in
    here_at rest e (filter (is_exception rest) es) method (is_exception rest e) refl same
    (ap (lists (excepted rest es)) (sym same) ∙ absent_below (string_bytes e.0) (excepted rest es) (excepted_above rest e.0 es above))
lists_at rest e es method false at above more =
    there_at e (filter (is_exception rest) es) method (is_exception rest e) (differing rest (lookup (is_at (λ k. slice_cmp nat_cmp method (string_bytes k))) es))
    (same_from_decides (bytes_eq (string_bytes e.0) method) (bytes_eq method (string_bytes e.0)) (bytes_eq-Decides (string_bytes e.0) method)
    ((λ h. sym ((bytes_eq-Decides method (string_bytes e.0)).0 h)), (λ h. (bytes_eq-Decides method (string_bytes e.0)).1 (sym h))) ∙ at)
    more

-- A method is among the names exactly if it has an entry that differs from the entry for all other methods.
pub excepted_lists : (rest : Merged) (es : List Entry) (method : List ℕ) → IsStrictlySortedBy string_cmp (keys_of es) → lists (excepted rest es) method ≡ differing rest (lookup (is_at (λ k. slice_cmp nat_cmp method (string_bytes k))) es)
unfolding IsStrictlySortedBy
excepted_lists rest [] method sorted = refl
excepted_lists rest (e ∷ es) method sorted =
    lists_at rest e es method (bytes_eq method (string_bytes e.0)) refl sorted.0 (excepted_lists rest es method sorted.1)
    ∙ ap (λ b. differing rest (cond b (Some e.1) (lookup (is_at (λ k. slice_cmp nat_cmp method (string_bytes k))) es))) (sym (is_eq-slice_cmp method (string_bytes e.0)))
