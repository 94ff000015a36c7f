-- The paths of requests, and patterns that match none of them.
use Rattle.std.proofs.lemmas.Bool.{not-true, and_parts, false≢true, not_from_true, or_cases, or_from, or_parts}
use Rattle.std.proofs.lemmas.Bool.Decides.{Decides-eqb}
use Rattle.std.proofs.lemmas.List.{get_or-drop, get_or-reverse}
use Rattle.std.proofs.lemmas.List.Elements.{All-drop, All-weaker}
use Rattle.std.proofs.lemmas.List.Folds.{list_all-append, list_any-append, list_any_none}
use Rattle.std.proofs.lemmas.List.Splits.{length-slice_split}
use Rattle.std.proofs.lemmas.List.Sums.{AllPass-from_list_all, list_all-from_AllPass, prefix_len_passes, suffix_len-le-length}
use Rattle.std.proofs.lemmas.Slice.Eq.{bytes_eq-Decides, starts_is}
use Rattle.std.proofs.Common.{arith, ◌≡◌, ℕ, ◌+◌, ◌-◌, ◌<◌, suc, Bool, true, false, not, ◌||◌, ◌&&◌, List, [], ◌∷◌, ◌++◌, length, length-drop, reverse, take, drop, codes, refl, ap, sym, ◌∙◌, cond, append_assoc, None, Some, inl, inr}
use Rattle.std.specs.Prelude.{nat_eq, slice_index_or}
use Rattle.std.specs.List.{AllPass, after_last, list_all, list_any, onto_first, starts_with, suffix_len}
use Rattle.std.specs.Option.{option_map_or}
use Rattle.std.specs.Str.{bytes_eq}
use Rattle.sv_mapping.proofs.Rooted.{slashed_rooted}
use Rattle.sv_mapping.specs.Pattern.{Form, Root, Default, Extension, Prefix, Exact, form, form_matches, has_extension, is_at_or_below, is_dot, is_slash, last_segment, matches}
use Rattle.sv_mapping.specs.Segments.{between_slashes, is_rooted}
use Rattle.sv_mapping.specs.Within.{path_within}
use Rattle.sv_uri.specs.Canonical.{begins_with_slash}
use Rattle.sv_uri.specs.Segment.{is_empty}
use Rattle.sv_uri.specs.Shape.{CanonicalHasShape, IsCanonicalPath, folders_of, is_dot_segment, may_stand_in_a_path}
use Rattle.sv_audit.specs.Shapes.{form_matches_nothing, has_dot_segment, has_empty_folder, is_misshapen, is_no_extension, matches_nothing}
use Rattle.sv_audit.specs.Shapes.{IsServed}

-- What a canonical path and a path within a context have in common.
pub record IsShaped (path : List ℕ) : Type 0 where
  pub rooted : is_rooted path ≡ true
  pub filled : has_empty_folder path ≡ false
  pub undotted : has_dot_segment path ≡ false
  pub plain : list_all may_stand_in_a_path path ≡ true

-- ---- Empty segments.
abbrev is_gap : ℕ × ℕ → Bool
is_gap pair = is_slash pair.0 && is_slash pair.1

filled_rest : (b : ℕ) (text : List ℕ) → has_empty_folder (b ∷ text) ≡ false → has_empty_folder text ≡ false
filled_rest b [] is = refl
filled_rest b (c ∷ text) is = (or_parts (is_slash b && is_slash c) (has_empty_folder (c ∷ text)) is).1

pub filled_end : (front text : List ℕ) → has_empty_folder (front ++ text) ≡ false → has_empty_folder text ≡ false
filled_end [] text is = is
filled_end (b ∷ front) text is = filled_end front text (filled_rest b (front ++ text) is)

filled_front : (front text : List ℕ) → has_empty_folder (front ++ text) ≡ false → has_empty_folder front ≡ false
filled_front [] text is = refl
filled_front (b ∷ []) text is = refl
filled_front (b ∷ c ∷ front) text is =
    let parts : ((is_slash b && is_slash c) ≡ false) × (has_empty_folder (c ∷ (front ++ text)) ≡ false) = or_parts (is_slash b && is_slash c) (has_empty_folder (c ∷ (front ++ text))) is in
    or_from (is_slash b && is_slash c) (has_empty_folder (c ∷ front)) parts.0 (filled_front (c ∷ front) text parts.1)

-- Some segment before the last is empty.
abbrev before_last : List (List ℕ) → Bool
before_last [] = false
before_last (x ∷ []) = false
before_last (x ∷ y ∷ rest) = is_empty x || before_last (y ∷ rest)

before_last_is : (parts : List (List ℕ)) → list_any is_empty (take (length parts - 1) parts) ≡ before_last parts
before_last_is [] = refl
before_last_is (x ∷ []) = refl
before_last_is (x ∷ y ∷ rest) =
    let long : length (x ∷ y ∷ rest) - 1 ≡ suc (length rest) = omega arith in
    let short : length rest ≡ length (y ∷ rest) - 1 = omega arith in
    ap (λ n. list_any is_empty (take n (x ∷ y ∷ rest))) long ∙ ap (λ b. is_empty x || b) (ap (λ n. list_any is_empty (take n (y ∷ rest))) short ∙ before_last_is (y ∷ rest))

-- The parts after the first.
abbrev behind : List (List ℕ) → List (List ℕ)
behind parts = drop 1 parts

gap_of_two : (parts : List (List ℕ)) → 0 < length parts → before_last ([] ∷ parts) ≡ true
gap_of_two [] some = absurd (omega (arith, some))
gap_of_two (x ∷ parts) some = refl

or_right_true : (a : Bool) → (a || true) ≡ true
or_right_true true = refl
or_right_true false = refl

gap_on : (parts : List (List ℕ)) → before_last (behind parts) ≡ true → before_last parts ≡ true
gap_on [] gap = gap
gap_on (x ∷ []) gap = absurd (false≢true gap)
gap_on (x ∷ y ∷ rest) gap = ap (λ b. is_empty x || b) gap ∙ or_right_true (is_empty x)

gap_kept : (b : ℕ) (parts : List (List ℕ)) → before_last (behind parts) ≡ true → before_last (behind (onto_first b parts)) ≡ true
gap_kept b [] gap = absurd (false≢true gap)
gap_kept b (x ∷ parts) gap = gap

parts_some : (text : List ℕ) → 0 < length (between_slashes text)
parts_some text = omega (arith, length-slice_split is_slash text)

-- Two slashes at the front.
two_slashes : (text : List ℕ) (second : Bool) → second ≡ true → before_last (cond second ([] ∷ between_slashes text) (onto_first 47 (between_slashes text))) ≡ true
two_slashes text true is = gap_of_two (between_slashes text) (parts_some text)
two_slashes text false is = absurd (false≢true is)

gap_at : (b c : ℕ) (text : List ℕ) (first second : Bool) → is_slash c ≡ second → (first && second || has_empty_folder (c ∷ text)) ≡ true
    → (has_empty_folder (c ∷ text) ≡ true → before_last (behind (between_slashes (c ∷ text))) ≡ true)
    → before_last (behind (cond first ([] ∷ between_slashes (c ∷ text)) (onto_first b (between_slashes (c ∷ text))))) ≡ true
gap_at b c text true true is gap below = ap (λ s. before_last (cond s ([] ∷ between_slashes text) (onto_first c (between_slashes text)))) is ∙ gap_of_two (between_slashes text) (parts_some text)
gap_at b c text true false is gap below = gap_on (between_slashes (c ∷ text)) (below gap)
gap_at b c text false second is gap below = gap_kept b (between_slashes (c ∷ text)) (below gap)

gaps : (text : List ℕ) → has_empty_folder text ≡ true → before_last (behind (between_slashes text)) ≡ true
gaps [] gap = absurd (false≢true gap)
gaps (b ∷ []) gap = absurd (false≢true gap)
gaps (b ∷ c ∷ text) gap = gap_at b c text (is_slash b) (is_slash c) refl gap (gaps (c ∷ text))

-- ---- Segments of joined texts.
onto_append : (b : ℕ) (parts others : List (List ℕ)) → 0 < length parts → onto_first b (parts ++ others) ≡ onto_first b parts ++ others
onto_append b [] others some = absurd (omega (arith, some))
onto_append b (x ∷ parts) others some = refl

split_step : (b : ℕ) (text : List ℕ) (others : List (List ℕ)) (slash : Bool) → cond slash ([] ∷ (between_slashes text ++ others)) (onto_first b (between_slashes text ++ others)) ≡ cond slash ([] ∷ between_slashes text) (onto_first b (between_slashes text)) ++ others
split_step b text others true = refl
split_step b text others false = onto_append b (between_slashes text) others (parts_some text)

pub split_at_slash : (front rest : List ℕ) → between_slashes (front ++ 47 ∷ rest) ≡ between_slashes front ++ between_slashes rest
split_at_slash [] rest = refl
split_at_slash (b ∷ front) rest =
    ap (λ parts. cond (is_slash b) ([] ∷ parts) (onto_first b parts)) (split_at_slash front rest) ∙ split_step b front (between_slashes rest) (is_slash b)

-- ---- Ends and fronts of shaped texts.
abbrev has_dots : List (List ℕ) → Bool
has_dots parts = list_any is_dot_segment parts

shaped_end : (front rest : List ℕ) → has_empty_folder (front ++ 47 ∷ rest) ≡ false → has_dot_segment (front ++ 47 ∷ rest) ≡ false → list_all may_stand_in_a_path (front ++ 47 ∷ rest) ≡ true → IsShaped (47 ∷ rest)
shaped_end front rest filled undotted plain = record {
  rooted = slashed_rooted (47 ∷ rest) rest refl;
  filled = filled_end front (47 ∷ rest) filled;
  undotted = (or_parts (has_dots (between_slashes front)) (has_dots (between_slashes rest)) (sym (list_any-append is_dot_segment (between_slashes front) (between_slashes rest)) ∙ ap has_dots (sym (split_at_slash front rest)) ∙ undotted)).1;
  plain = (and_parts (list_all may_stand_in_a_path front) (list_all may_stand_in_a_path (47 ∷ rest)) (sym (list_all-append may_stand_in_a_path front (47 ∷ rest)) ∙ plain)).1;
}

-- A front of a shaped path, up to a slash or the whole, is not misshapen.
well_shaped : (text : List ℕ) → has_empty_folder text ≡ false → has_dot_segment text ≡ false → list_all may_stand_in_a_path text ≡ true → is_misshapen text ≡ false
well_shaped text filled undotted plain =
    or_from (has_empty_folder text || has_dot_segment text) (not (list_all may_stand_in_a_path text)) (or_from (has_empty_folder text) (has_dot_segment text) filled undotted) (not_from_true (list_all may_stand_in_a_path text) plain)

shaped_front : (text rest : List ℕ) → IsShaped (text ++ 47 ∷ rest) → is_misshapen text ≡ false
shaped_front text rest path =
    well_shaped text (filled_front text (47 ∷ rest) path.filled)
    ((or_parts (has_dots (between_slashes text)) (has_dots (between_slashes rest)) (sym (list_any-append is_dot_segment (between_slashes text) (between_slashes rest)) ∙ ap has_dots (sym (split_at_slash text rest)) ∙ path.undotted)).0)
    ((and_parts (list_all may_stand_in_a_path text) (list_all may_stand_in_a_path (47 ∷ rest)) (sym (list_all-append may_stand_in_a_path text (47 ∷ rest)) ∙ path.plain)).0)

same_shape : (path text : List ℕ) → path ≡ text → IsShaped path → is_misshapen text ≡ false
same_shape path text same it = ap is_misshapen (sym same) ∙ well_shaped path it.filled it.undotted it.plain

along_shape : (path other : List ℕ) → path ≡ other → IsShaped path → IsShaped other
along_shape path other same it = record {
  rooted = ap is_rooted (sym same) ∙ it.rooted;
  filled = ap has_empty_folder (sym same) ∙ it.filled;
  undotted = ap has_dot_segment (sym same) ∙ it.undotted;
  plain = ap (list_all may_stand_in_a_path) (sym same) ∙ it.plain;
}

below_shaped : (text path : List ℕ) → IsShaped path → is_at_or_below text path ≡ true → is_misshapen text ≡ false
below_shaped text path it at =
    elim (or_cases (bytes_eq path text) (starts_with nat_eq path (text ++ codes "/")) at) [
      | inl same ↦ same_shape path text ((bytes_eq-Decides path text).0 same) it
      | inr below ↦
          let is : path ≡ (text ++ 47 ∷ []) ++ drop (length (text ++ 47 ∷ [])) path = (starts_is Decides-eqb path (text ++ 47 ∷ []) _ refl).0 below in
          shaped_front text (drop (length (text ++ 47 ∷ [])) path) (along_shape path (text ++ 47 ∷ drop (length (text ++ 47 ∷ [])) path) (is ∙ append_assoc text (47 ∷ []) (drop (length (text ++ 47 ∷ [])) path)) it)
    ]

-- ---- Extensions.
ends_pass : (test : ℕ → Bool) (xs : List ℕ) → AllPass test (drop (length xs - suffix_len test xs) xs)
ends_pass test xs k d within =
    let start : ℕ = length xs - suffix_len test xs in
    let fits : suffix_len test xs < length xs + 1 = omega (arith, suffix_len-le-length test xs) in
    let inside : k < length xs - start = omega (arith, length-drop start xs, within) in
    let place : ℕ = length xs - 1 - (start + k) in
    let there : slice_index_or (drop start xs) k d ≡ slice_index_or xs (start + k) d = get_or-drop start xs k d in
    let turned : slice_index_or (reverse xs) place d ≡ slice_index_or xs (length xs - 1 - place) d = get_or-reverse xs place d (omega (arith, inside, fits)) in
    let back : length xs - 1 - place ≡ start + k = omega (arith, inside, fits) in
    ap test (there ∙ sym (turned ∙ ap (λ n. slice_index_or xs n d) back)) ∙ prefix_len_passes test (reverse xs) place d (omega (arith, inside, fits))

after_has_none : (test : ℕ → Bool) (xs : List ℕ) → list_any test (after_last test xs) ≡ false
after_has_none test xs =
    list_any_none test (after_last test xs) (All-weaker (λ x. not (test x) ≡ true) (λ x. test x ≡ false) (λ x passes. not-true (test x) passes) (after_last test xs) (ends_pass (λ x. not (test x)) xs))

after_keeps : (test keep : ℕ → Bool) (xs : List ℕ) → list_all keep xs ≡ true → list_all keep (after_last test xs) ≡ true
after_keeps test keep xs all =
    list_all-from_AllPass keep (after_last test xs) (All-drop (λ x. keep x ≡ true) (length xs - suffix_len (λ x. not (test x)) xs) xs (AllPass-from_list_all keep xs all))

undotted_at : (wanted segment : List ℕ) (dotted : Bool) → option_map_or (λ found. bytes_eq found wanted) (cond dotted (Some (after_last is_dot segment)) None) false ≡ true → list_any is_dot wanted ≡ false
undotted_at wanted segment false has = absurd (false≢true has)
undotted_at wanted segment true has = ap (list_any is_dot) (sym ((bytes_eq-Decides (after_last is_dot segment) wanted).0 has)) ∙ after_has_none is_dot segment

-- The extension of a path has no dot.
pub undotted_extension : (wanted path : List ℕ) → has_extension wanted path ≡ true → list_any is_dot wanted ≡ false
undotted_extension wanted path has = undotted_at wanted (last_segment path) (list_any is_dot (last_segment path)) has

extension_at : (wanted path : List ℕ) (dotted : Bool) → IsShaped path → option_map_or (λ found. bytes_eq found wanted) (cond dotted (Some (after_last is_dot (last_segment path))) None) false ≡ true → is_no_extension wanted ≡ false
extension_at wanted path false it has = absurd (false≢true has)
extension_at wanted path true it has =
    let is : after_last is_dot (last_segment path) ≡ wanted = (bytes_eq-Decides (after_last is_dot (last_segment path)) wanted).0 has in
    or_from (list_any is_dot wanted) (not (list_all may_stand_in_a_path wanted))
    (ap (list_any is_dot) (sym is) ∙ after_has_none is_dot (last_segment path))
    (not_from_true (list_all may_stand_in_a_path wanted) (ap (list_all may_stand_in_a_path) (sym is) ∙ after_keeps is_dot may_stand_in_a_path (last_segment path) (after_keeps is_slash may_stand_in_a_path path it.plain)))

-- ---- A pattern that matches nothing matches no shaped path.
form_fails : (its_form : Form) (path : List ℕ) → IsShaped path → form_matches its_form path ≡ true → form_matches_nothing its_form ≡ false
form_fails Root path it at = refl
form_fails Default path it at = refl
form_fails (Extension wanted) path it at = extension_at wanted path (list_any is_dot (last_segment path)) it at
form_fails (Prefix prefix) path it at = below_shaped prefix path it at
form_fails (Exact text) path it at = same_shape path text ((bytes_eq-Decides path text).0 at) it

pub nothing_matches : (pattern path : List ℕ) → IsShaped path → matches pattern path ≡ true → matches_nothing pattern ≡ false
nothing_matches pattern path it at = form_fails (form pattern) path it at

-- ---- The paths of requests are shaped.
canonical_shaped : (path rest : List ℕ) → path ≡ 47 ∷ rest → IsCanonicalPath path → (has_empty_folder path ≡ false) × (has_dot_segment path ≡ false) × (list_all may_stand_in_a_path path ≡ true)
canonical_shaped path rest slash it = (
  no_gap (has_empty_folder path) refl,
  ap has_dot_segment slash
      ∙ list_any_none is_dot_segment (between_slashes rest) (All-weaker (λ segment. not (is_dot_segment segment) ≡ true) (λ segment. is_dot_segment segment ≡ false) (λ segment passes. not-true (is_dot_segment segment) passes) (between_slashes rest) parts),
  list_all-from_AllPass may_stand_in_a_path path it.plain,
)
  where
    parts : AllPass (λ segment. not (is_dot_segment segment)) (between_slashes rest)
    parts = rw slash at it.undotted

    no_folder : list_any is_empty (folders_of path) ≡ false
    no_folder = list_any_none is_empty (folders_of path) (All-weaker (λ segment. not (is_empty segment) ≡ true) (λ segment. is_empty segment ≡ false) (λ segment passes. not-true (is_empty segment) passes) (folders_of path) it.filled)

    no_gap : (gap : Bool) → has_empty_folder path ≡ gap → gap ≡ false
    no_gap false is = refl
    no_gap true is = absurd (false≢true (sym no_folder ∙ before_last_is (behind (between_slashes path)) ∙ gaps path is))

begins : (path : List ℕ) → begins_with_slash path ≡ true → (rest : List ℕ) × (path ≡ 47 ∷ rest)
begins [] is = absurd (false≢true is)
begins (b ∷ rest) is = (rest, grind arith)

pub after : (front rest : List ℕ) → drop (length front) ((front ++ 47 ∷ []) ++ rest) ≡ 47 ∷ rest
after [] rest = refl
after (b ∷ front) rest = after front rest

root_shaped : IsShaped (codes "/")
root_shaped = record { rooted = refl; filled = refl; undotted = refl; plain = refl }

within_at : (context path : List ℕ) (same : Bool) → IsCanonicalPath path → (same || starts_with nat_eq path (context ++ codes "/")) ≡ true → IsShaped (cond same (codes "/") (drop (length context) path))
within_at context path true it at = root_shaped
within_at context path false it at =
    let slash : (rest : List ℕ) × (path ≡ 47 ∷ rest) = begins path it.rooted in
    let shape : (has_empty_folder path ≡ false) × (has_dot_segment path ≡ false) × (list_all may_stand_in_a_path path ≡ true) = canonical_shaped path slash.0 slash.1 it in
    let is : path ≡ (context ++ 47 ∷ []) ++ drop (length (context ++ 47 ∷ [])) path = (starts_is Decides-eqb path (context ++ 47 ∷ []) _ refl).0 at in
    let rest : List ℕ = drop (length (context ++ 47 ∷ [])) path in
    let whole : path ≡ context ++ 47 ∷ rest = is ∙ append_assoc context (47 ∷ []) rest in
    along_shape (47 ∷ rest) (drop (length context) path) (sym (ap (drop (length context)) is ∙ after context rest))
    (shaped_end context rest (ap has_empty_folder (sym whole) ∙ shape.0) (ap has_dot_segment (sym whole) ∙ shape.1) (ap (list_all may_stand_in_a_path) (sym whole) ∙ shape.2))

pub served_shaped : CanonicalHasShape → (path : List ℕ) → IsServed path → IsShaped path
served_shaped shapes path (target, context, canon, is, at, same) =
    along_shape (path_within context canon.path) path (sym same) (within_at context canon.path (bytes_eq canon.path context) (shapes target canon is) at)
