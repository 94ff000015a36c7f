-- Forms that match a path may meet.
use Rattle.std.proofs.lemmas.Bool.{both_ways, cases_Bool, eqb-true, false_from_ne_true, false≢true, not_from_false, ltb-false, ltb-true, or_cases, or_from, or_left, or_parts, or_right}
use Rattle.std.proofs.lemmas.Bool.Decides.{Decides-eqb}
use Rattle.std.proofs.lemmas.List.Folds.{list_any-append, list_any_at}
use Rattle.std.proofs.lemmas.List.Sums.{suffix_len_is}
use Rattle.std.proofs.lemmas.Slice.Eq.{bytes_eq-Decides, ends_is, starts_is}
use Rattle.std.proofs.Common.{arith, ◌≡◌, ℕ, ◌-◌, ◌<◌, ◌≤◌, ◌⊎◌, ltb, take, drop, Bool, true, false, not, ◌||◌, List, [], ◌∷◌, ◌++◌, length, codes, refl, ap, sym, ◌∙◌, cond, append_assoc, Option, Some, None, inl, inr}
use Rattle.std.specs.Prelude.{nat_eq}
use Rattle.std.specs.List.{after_last, ends_with, list_any, starts_with, suffix_len}
use Rattle.std.specs.Option.{option_map_or}
use Rattle.std.specs.Str.{bytes_eq}
use Rattle.sv_mapping.specs.Pattern.{Form, Root, Default, Extension, Prefix, Exact, extension, form, form_matches, has_extension, is_at_or_below, is_dot, is_slash, last_segment, matches}
use Rattle.sv_mapping.specs.Segments.{between_slashes}
use Rattle.sv_audit.proofs.Equal.{and_left, and_right}
use Rattle.sv_audit.proofs.Names.{below_above, below_shorter, cut, no_extension, segment_of}
use Rattle.sv_audit.proofs.Shapes.{split_at_slash}
use Rattle.sv_mapping.proofs.Cuts.{one_segment}
use Rattle.sv_findings.specs.Unserved.{has_segment_with, holds, is_folder_of, may_answer, may_be_among, may_hold, may_meet, meets_extension, meets_prefix}

along : (f : Form) (path text : List ℕ) → bytes_eq path text ≡ true → form_matches f path ≡ true → form_matches f text ≡ true
along f path text same matched = ap (form_matches f) (sym ((bytes_eq-Decides path text).0 same)) ∙ matched

-- ---- Two forms.
by_length : (a b path : List ℕ) → is_at_or_below a path ≡ true → is_at_or_below b path ≡ true → (length a ≤ length b) ⊎ (length b ≤ length a) → (is_at_or_below a b || is_at_or_below b a) ≡ true
by_length a b path one two (inl fits) = or_left _ _ (below_shorter a b path one two fits)
by_length a b path one two (inr fits) = or_right _ _ (below_shorter b a path two one fits)

total : (m n : ℕ) → (m ≤ n) ⊎ (n ≤ m)
total m n = elim (cases_Bool (ltb m n)) [ inl less ↦ inl (let h : m < n = ltb-true m n less in omega (arith, h)) | inr more ↦ inr (ltb-false m n more) ]

prefix_meets : (prefix path : List ℕ) (g : Form) → is_at_or_below prefix path ≡ true → form_matches g path ≡ true → meets_prefix prefix g ≡ true
prefix_meets prefix path Root lies matched = along (Prefix prefix) path (codes "/") matched lies
prefix_meets prefix path Default lies matched = refl
prefix_meets prefix path (Extension wanted) lies matched = refl
prefix_meets prefix path (Prefix other) lies matched = by_length prefix other path lies matched (total (length prefix) (length other))
prefix_meets prefix path (Exact text) lies matched = along (Prefix prefix) path text matched lies

same_extension : (found : Option (List ℕ)) (a b : List ℕ) → option_map_or (λ one. bytes_eq one a) found false ≡ true → option_map_or (λ one. bytes_eq one b) found false ≡ true → bytes_eq a b ≡ true
same_extension None a b one two = absurd (false≢true one)
same_extension (Some e) a b one two = (bytes_eq-Decides a b).1 (sym ((bytes_eq-Decides e a).0 one) ∙ (bytes_eq-Decides e b).0 two)

extension_meets : (wanted path : List ℕ) (g : Form) → has_extension wanted path ≡ true → form_matches g path ≡ true → meets_extension wanted g ≡ true
extension_meets wanted path Root has matched = along (Extension wanted) path (codes "/") matched has
extension_meets wanted path Default has matched = refl
extension_meets wanted path (Extension other) has matched = same_extension (extension path) wanted other has matched
extension_meets wanted path (Prefix prefix) has matched = refl
extension_meets wanted path (Exact text) has matched = along (Extension wanted) path text matched has

pub meets : (f g : Form) (path : List ℕ) → form_matches f path ≡ true → form_matches g path ≡ true → may_meet f g ≡ true
meets Root g path one two = along g path (codes "/") one two
meets Default g path one two = refl
meets (Extension wanted) g path one two = extension_meets wanted path g one two
meets (Prefix prefix) g path one two = prefix_meets prefix path g one two
meets (Exact text) g path one two = along g path text one two

-- ---- A form and the path of a file, or of a folder that holds it.
starts : (text front rest : List ℕ) → text ≡ front ++ rest → starts_with nat_eq text front ≡ true
starts text front rest is = (starts_is Decides-eqb text front _ refl).1 rest is

rest_after : (text front : List ℕ) → starts_with nat_eq text front ≡ true → (rest : List ℕ) × (text ≡ front ++ rest)
rest_after text front h = (_, (starts_is Decides-eqb text front _ refl).0 h)

-- A prefix of a folder with a slash at its end holds the file.
folder_holds : (prefix path file : List ℕ) → is_folder_of path file ≡ true → is_at_or_below prefix path ≡ true → holds prefix file ≡ true
folder_holds prefix path file folder lies =
    elim (or_cases _ _ lies) [
      | inl same ↦ or_right (is_at_or_below prefix file) (is_folder_of prefix file) (ap (λ p. is_folder_of p file) (sym ((bytes_eq-Decides path prefix).0 same)) ∙ folder)
      | inr below ↦
          let inner : (rest : List ℕ) × (path ≡ (prefix ++ codes "/") ++ rest) = rest_after path (prefix ++ codes "/") below in
          let whole : (rest : List ℕ) × (file ≡ path ++ rest) = rest_after file path (and_right _ _ folder) in
          or_left (is_at_or_below prefix file) (is_folder_of prefix file)
          (or_right (bytes_eq file prefix) (starts_with nat_eq file (prefix ++ codes "/")) (starts file (prefix ++ codes "/") (inner.0 ++ whole.0) (whole.1 ∙ (ap (λ p. p ++ whole.0) inner.1 ∙ append_assoc (prefix ++ codes "/") inner.0 whole.0))))
    ]

prefix_holds : (prefix path file : List ℕ) → holds path file ≡ true → is_at_or_below prefix path ≡ true → holds prefix file ≡ true
prefix_holds prefix path file held lies =
    elim (or_cases (is_at_or_below path file) (is_folder_of path file) held) [ inl above ↦ or_left _ _ (below_above prefix path file lies above) | inr folder ↦ folder_holds prefix path file folder lies ]

-- A text without a slash is its last segment, and the only one.
whole_segment : (text : List ℕ) → list_any is_slash text ≡ false → last_segment text ≡ text
whole_segment text none =
    let len = suffix_len_is (λ b. not (is_slash b)) text 0 0 (omega arith) (λ k _ within. not_from_false _ (false_from_ne_true _ (λ passes. both_ways _ none (list_any_at is_slash text k 0 within passes)))) (λ below. absurd (omega arith)) in
    let all : length text - suffix_len (λ b. not (is_slash b)) text ≡ 0 = omega (arith, len) in
    ap (λ n. drop n text) all

segment_alone : (wanted text : List ℕ) → list_any is_slash text ≡ false → has_extension wanted text ≡ true → has_segment_with wanted text ≡ true
segment_alone wanted text none has = ap (list_any (has_extension wanted)) (one_segment text none) ∙ or_left (has_extension wanted text) false has

segment_last : (wanted front back : List ℕ) → list_any is_slash back ≡ false → has_extension wanted (front ++ 47 ∷ back) ≡ true → has_segment_with wanted (front ++ 47 ∷ back) ≡ true
segment_last wanted front back none has =
    ap (list_any (has_extension wanted)) (split_at_slash front back) ∙ list_any-append (has_extension wanted) (between_slashes front) (between_slashes back)
    ∙ or_right (has_segment_with wanted front) (has_segment_with wanted back)
    (segment_alone wanted back none (ap (λ segment. option_map_or (λ found. bytes_eq found wanted) (cond (list_any is_dot segment) (Some (after_last is_dot segment)) None) false) (whole_segment back none ∙ sym (segment_of front back none)) ∙ has))

segment_of_path : (wanted path : List ℕ) → has_extension wanted path ≡ true → has_segment_with wanted path ≡ true
segment_of_path wanted path has =
    elim (cases_Bool (list_any is_slash path)) [
      | inl some ↦
          let parts : (front : List ℕ) × (b : ℕ) × (back : List ℕ) × (path ≡ front ++ b ∷ back) × (is_slash b ≡ true) × (list_any is_slash back ≡ false) = cut is_slash path some in
          let whole : path ≡ parts.0 ++ 47 ∷ parts.2 = parts.3 ∙ ap (λ c. parts.0 ++ c ∷ parts.2) (eqb-true parts.1 47 parts.4) in
          ap (has_segment_with wanted) whole ∙ segment_last wanted parts.0 parts.2 parts.5 (ap (has_extension wanted) (sym whole) ∙ has)
      | inr none ↦ segment_alone wanted path none has
    ]

-- A folder with a slash at its end has no extension.
no_folder_extension : (wanted path : List ℕ) → ends_with nat_eq path (codes "/") ≡ true → has_extension wanted path ≡ false
no_folder_extension wanted path ended =
    let whole : path ≡ take (length path - 1) path ++ 47 ∷ [] = (ends_is Decides-eqb path (codes "/") _ refl).0 ended in
    ap (has_extension wanted) whole ∙ ap (λ found. option_map_or (λ one. bytes_eq one wanted) found false) (no_extension (take (length path - 1) path) [] refl refl)

extension_at : (wanted path file : List ℕ) → is_at_or_below path file ≡ true → has_segment_with wanted path ≡ true → has_segment_with wanted file ≡ true
extension_at wanted path file above has =
    elim (or_cases _ _ above) [
      | inl same ↦ ap (has_segment_with wanted) ((bytes_eq-Decides file path).0 same) ∙ has
      | inr lies ↦
          let inner : (rest : List ℕ) × (file ≡ (path ++ codes "/") ++ rest) = rest_after file (path ++ codes "/") lies in
          ap (has_segment_with wanted) (inner.1 ∙ append_assoc path (codes "/") inner.0) ∙ ap (list_any (has_extension wanted)) (split_at_slash path inner.0)
          ∙ list_any-append (has_extension wanted) (between_slashes path) (between_slashes inner.0) ∙ or_left (has_segment_with wanted path) (has_segment_with wanted inner.0) has
    ]

extension_holds : (wanted path file : List ℕ) → holds path file ≡ true → has_extension wanted path ≡ true → has_segment_with wanted file ≡ true
extension_holds wanted path file held has =
    elim (or_cases (is_at_or_below path file) (is_folder_of path file) held) [
      | inl above ↦ extension_at wanted path file above (segment_of_path wanted path has)
      | inr folder ↦ absurd (false≢true (sym (no_folder_extension wanted path (and_left _ _ folder)) ∙ has))
    ]

pub held_by : (f : Form) (path file : List ℕ) → form_matches f path ≡ true → holds path file ≡ true → may_hold f file ≡ true
held_by Root path file matched held = refl
held_by Default path file matched held = refl
held_by (Extension wanted) path file matched held = extension_holds wanted path file held matched
held_by (Prefix prefix) path file matched held = prefix_holds prefix path file held matched
held_by (Exact text) path file matched held = ap (λ p. holds p file) (sym ((bytes_eq-Decides path text).0 matched)) ∙ held

-- ---- Nothing answers at a path.
none_first : (test other : List ℕ → Bool) → ((text : List ℕ) → other text ≡ true → test text ≡ true) → (texts : List (List ℕ)) → list_any test texts ≡ false → list_any other texts ≡ false
none_first test other implies [] none = refl
none_first test other implies (text ∷ texts) none =
    or_from (other text) (list_any other texts) (turned (other text) refl) (none_first test other implies texts (or_parts (test text) (list_any test texts) none).1)
  where
    turned : (b : Bool) → other text ≡ b → other text ≡ false
    turned false is = is
    turned true is = absurd (false≢true (sym (or_parts (test text) (list_any test texts) none).0 ∙ implies text is))

pub none_meets : (pattern path : List ℕ) (servlets : List (List ℕ)) → matches pattern path ≡ true → may_answer (form pattern) servlets ≡ false → list_any (λ servlet. matches servlet path) servlets ≡ false
none_meets pattern path servlets matched none = none_first (λ servlet. may_meet (form pattern) (form servlet)) (λ servlet. matches servlet path) (λ servlet its. meets (form pattern) (form servlet) path matched its) servlets none

pub none_held : (pattern path : List ℕ) (files : List (List ℕ)) → matches pattern path ≡ true → may_be_among (form pattern) files ≡ false → list_any (holds path) files ≡ false
none_held pattern path files matched none = none_first (may_hold (form pattern)) (holds path) (λ file its. held_by (form pattern) path file matched its) files none
