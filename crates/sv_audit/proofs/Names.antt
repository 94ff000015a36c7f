-- The last segment and the extension of a path, and the directories above it.
use Rattle.std.proofs.Common.{◌≡◌, ℕ, suc, ◌+◌, ◌-◌, ◌<◌, ◌≤◌, Bool, true, false, not, ◌&&◌, ◌||◌, eqb, List, [], ◌∷◌, ◌++◌, length, drop, get_or, refl, sym, ◌∙◌, ap, arith, append_assoc, length-append, inl, inr, None, Some}
use Rattle.std.specs.List.{after_last, list_any, starts_with}
use Rattle.std.specs.Str.{bytes_eq}
use Rattle.std.proofs.lemmas.Bool.{and_right, both_ways, cases_Bool, eq-eqb, eqb-false, eqb-true, false_from_ne_true, ne_eqb, not_from_false, not_from_true, or_cases, or_parts}
use Rattle.std.proofs.lemmas.Bool.Decides.{Decides-eqb}
use Rattle.std.proofs.lemmas.List.Folds.{list_any-append, list_any_at}
use Rattle.std.proofs.lemmas.List.Sums.{suffix_len_is}
use Rattle.std.proofs.lemmas.Slice.Eq.{starts_is}
use Rattle.std.proofs.Math.Seq.{drop-append_seam, get_or-append_right, get_or-append_seam}
use Rattle.sv_mapping.specs.Pattern.{extension, is_at_or_below, is_dot, is_slash, last_segment}
use Rattle.sv_text.proofs.LastSlash.{has_slash, lies_below}

-- ---- The text after the last item that passes.
module _ (test : ℕ → Bool) where
  none_at : (xs : List ℕ) (k : ℕ) → list_any test xs ≡ false → k < length xs → test (get_or xs k 0) ≡ false
  none_at xs k none within = false_from_ne_true _ (λ passes. both_ways _ none (list_any_at test xs k 0 within passes))

  pub after : (xs : List ℕ) (b : ℕ) (ys : List ℕ) → test b ≡ true → list_any test ys ≡ false → after_last test (xs ++ b ∷ ys) ≡ ys
  after xs b ys passes none =
      let size = length-append xs (b ∷ ys) in
      let len = suffix_len_is (λ x. not (test x)) (xs ++ b ∷ ys) (length xs + 1) 0 (omega (arith, size))
      (λ k from within. not_from_false _ (ap test (get_or-append_right xs (b ∷ ys) k 0 (omega (arith, from)) ∙ (ap (λ n. get_or (b ∷ ys) n 0) (one_more k from) ∙ next (k - length xs - 1))) ∙ none_at ys (k - length xs - 1) none (omega (arith, from, within, size))))
      (λ _. not_from_true _ (ap test (ap (λ n. get_or (xs ++ b ∷ ys) n 0) (omega arith) ∙ get_or-append_seam xs b ys 0) ∙ passes))
      in
      ap (λ n. drop n (xs ++ b ∷ ys)) (omega (arith, len, size, length-append xs (b ∷ []))) ∙ ap (drop (length (xs ++ b ∷ []))) (sym (append_assoc xs (b ∷ []) ys)) ∙ drop-append_seam (xs ++ b ∷ []) ys
    where
      one_more : (k : ℕ) → length xs + 1 ≤ k → k - length xs ≡ suc (k - length xs - 1)
      one_more k from = omega (arith, from)

      next : (n : ℕ) → get_or (b ∷ ys) (suc n) 0 ≡ get_or ys n 0
      next n = refl

  -- A text with such an item is cut at the last one.
  pub cut : (text : List ℕ) → list_any test text ≡ true → (front : List ℕ) × (b : ℕ) × (back : List ℕ) × (text ≡ front ++ b ∷ back) × (test b ≡ true) × (list_any test back ≡ false)
  cut [] some = absurd (both_ways _ refl some)
  cut (b ∷ bs) some =
      elim (cases_Bool (list_any test bs)) [
        | inl later ↦ let rest = cut bs later in (b ∷ rest.0, rest.1, rest.2, ap (λ xs. b ∷ xs) rest.3, rest.4, rest.5)
        | inr none ↦ elim (or_cases _ _ some) [ inl here ↦ ([], b, bs, refl, here, none) | inr there ↦ absurd (both_ways _ none there) ]
      ]

-- ---- The extension of a path with this last segment.
pub segment_of : (front back : List ℕ) → list_any is_slash back ≡ false → last_segment (front ++ 47 ∷ back) ≡ back
segment_of front back none = after is_slash front 47 back refl none

pub extension_of : (front name wanted : List ℕ) → list_any is_slash (name ++ 46 ∷ wanted) ≡ false → list_any is_dot wanted ≡ false → extension (front ++ 47 ∷ (name ++ 46 ∷ wanted)) ≡ Some wanted
extension_of front name wanted plain none =
    let dotted : list_any is_dot (name ++ 46 ∷ wanted) ≡ true = list_any-append is_dot name (46 ∷ wanted) ∙ or_true (list_any is_dot name) in
    rw (segment_of front (name ++ 46 ∷ wanted) plain) (rw dotted (ap Some (after is_dot name 46 wanted refl none)))
  where
    or_true : (b : Bool) → (b || true) ≡ true
    or_true true = refl
    or_true false = refl

pub no_extension : (front back : List ℕ) → list_any is_slash back ≡ false → list_any is_dot back ≡ false → extension (front ++ 47 ∷ back) ≡ None
no_extension front back plain none = rw (segment_of front back plain) (rw none refl)

-- ---- Directories.
eqb-turn : (m n : ℕ) → eqb m n ≡ eqb n m
eqb-turn m n =
    elim (cases_Bool (eqb m n)) [
      | inl same ↦ same ∙ sym (eq-eqb n m (sym (eqb-true m n same)))
      | inr apart ↦ apart ∙ sym (ne_eqb n m (λ same. eqb-false m n apart (sym same)))
    ]

-- A text without a slash lies below no text.
none_below : (outer text : List ℕ) → has_slash text ≡ false → lies_below outer text ≡ false
none_below [] [] none = refl
none_below [] (b ∷ text) none = ap (λ t. t && true) (eqb-turn 47 b ∙ (or_parts (eqb b 47) (has_slash text) none).0)
none_below (x ∷ outer) [] none = refl
none_below (x ∷ outer) (b ∷ text) none = and_right (eqb x b) (lies_below outer text) (none_below outer text (or_parts (eqb b 47) (has_slash text) none).1)

split_and : (first further here up : Bool) → further ≡ (here || up) → (first && further) ≡ ((first && here) || (first && up))
split_and true further here up is = is
split_and false further here up is = refl

-- If its back has no slash, a text lies below its front and below each text that this front lies below.
below_up : (outer front back : List ℕ) → has_slash back ≡ false → lies_below outer (front ++ 47 ∷ back) ≡ (bytes_eq front outer || lies_below outer front)
below_up [] [] back none = refl
below_up [] (y ∷ front) back none = refl
below_up (x ∷ outer) [] back none = and_right (eqb x 47) (lies_below outer back) (none_below outer back none)
below_up (x ∷ outer) (y ∷ front) back none =
    split_and (eqb x y) (lies_below outer (front ++ 47 ∷ back)) (bytes_eq front outer) (lies_below outer front) (below_up outer front back none)
    ∙ ap (λ same. (same && bytes_eq front outer) || (eqb x y && lies_below outer front)) (eqb-turn x y)

-- A path is below the directories that its front, up to the last slash, is at or below.
pub below_path : (outer front back : List ℕ) → has_slash back ≡ false → bytes_eq (front ++ 47 ∷ back) outer ≡ false → is_at_or_below outer (front ++ 47 ∷ back) ≡ is_at_or_below outer front
below_path outer front back plain other = ap (λ b. b || lies_below outer (front ++ 47 ∷ back)) other ∙ below_up outer front back plain

-- A text is at or below a directory exactly if it begins with it and a slash, after a slash is appended to it.
pub at_or_below : (outer text : List ℕ) → is_at_or_below outer text ≡ lies_below outer (text ++ 47 ∷ [])
at_or_below outer text = sym (below_up outer text [] refl)

begins : (text front rest : List ℕ) → text ≡ front ++ rest → starts_with eqb text front ≡ true
begins text front rest h = (starts_is Decides-eqb text front _ refl).1 rest h

rest_of : (text front : List ℕ) → starts_with eqb text front ≡ true → (rest : List ℕ) × (text ≡ front ++ rest)
rest_of text front h = (_, (starts_is Decides-eqb text front _ refl).0 h)

heads : (b c : ℕ) (bs cs : List ℕ) → b ∷ bs ≡ c ∷ cs → b ≡ c
heads b c bs cs e = cc

tails : (b c : ℕ) (bs cs : List ℕ) → b ∷ bs ≡ c ∷ cs → bs ≡ cs
tails b c bs cs e = cc

-- Of two fronts of a text, the longer one begins with the other.
shorter : (one other more rest : List ℕ) → one ++ more ≡ other ++ rest → length one ≤ length other → (between : List ℕ) × (other ≡ one ++ between)
shorter [] other more rest same fits = (other, refl)
shorter (x ∷ xs) [] more rest same fits = absurd (omega (arith, fits))
shorter (x ∷ xs) (y ∷ ys) more rest same fits =
    let below = shorter xs ys more rest (tails x y (xs ++ more) (ys ++ rest) same) (omega (arith, fits)) in
    (below.0, ap (λ zs. y ∷ zs) below.1 ∙ ap (λ z. z ∷ (xs ++ below.0)) (sym (heads x y (xs ++ more) (ys ++ rest) same)))

-- What a directory lies below, all below the directory lies below.
pub below_above : (outer directory text : List ℕ) → is_at_or_below outer directory ≡ true → is_at_or_below directory text ≡ true → is_at_or_below outer text ≡ true
below_above outer directory text above below =
    let first = rest_of (directory ++ 47 ∷ []) (outer ++ 47 ∷ []) (sym (at_or_below outer directory) ∙ above) in
    let second = rest_of (text ++ 47 ∷ []) (directory ++ 47 ∷ []) (sym (at_or_below directory text) ∙ below) in
    at_or_below outer text
    ∙ begins (text ++ 47 ∷ []) (outer ++ 47 ∷ []) (first.0 ++ second.0) (second.1 ∙ (ap (λ xs. xs ++ second.0) first.1 ∙ append_assoc (outer ++ 47 ∷ []) first.0 second.0))

-- Of two directories of a path, the longer one is at or below the other.
pub below_shorter : (outer directory text : List ℕ) → is_at_or_below outer text ≡ true → is_at_or_below directory text ≡ true → length outer ≤ length directory → is_at_or_below outer directory ≡ true
below_shorter outer directory text above below fits =
    let first = rest_of (text ++ 47 ∷ []) (outer ++ 47 ∷ []) (sym (at_or_below outer text) ∙ above) in
    let second = rest_of (text ++ 47 ∷ []) (directory ++ 47 ∷ []) (sym (at_or_below directory text) ∙ below) in
    let between = shorter (outer ++ 47 ∷ []) (directory ++ 47 ∷ []) first.0 second.0 (sym first.1 ∙ second.1) (omega (arith, fits, length-append outer (47 ∷ []), length-append directory (47 ∷ []))) in
    at_or_below outer directory ∙ begins (directory ++ 47 ∷ []) (outer ++ 47 ∷ []) between.0 between.1
