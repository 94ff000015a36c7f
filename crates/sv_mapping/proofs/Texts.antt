-- The tests of the code, in terms of the definitions.
use Rattle.std.proofs.Common.{◌≡◌, ℕ, ◌+◌, ◌-◌, ◌<◌, ◌≤◌, true, false, not, List, [], ◌∷◌, ◌++◌, length, take, drop, get_or, eqb, refl, sym, ◌∙◌, ap, append_assoc, add-zero, append-nil, arith, length-append, length-drop, Some, None, inl, inr}
use Rattle.std.specs.List.{starts_with, suffix_len, after_last, list_any}
use Rattle.std.specs.Str.{bytes_eq, IsCharBoundary, NoCharPasses}
use Rattle.std.specs.Str.Pattern.{FindsTextPrefix, FindsTextSuffix, StripsPrefix, StripsSuffix, RFindsChar, SplitsAroundMatch}
use Rattle.std.proofs.lemmas.Bool.{both_ways, cases_Bool, eqb-true, eq-eqb, false_from_ne_true, ne_eqb, not_from_false, not_from_true, or_cases, or_from, or_left}
use Rattle.std.proofs.lemmas.Bool.Decides.{Decides-eqb}
use Rattle.std.proofs.lemmas.List.{get_or-drop}
use Rattle.std.proofs.lemmas.List.Folds.{list_any_at, list_any_none}
use Rattle.std.proofs.lemmas.List.Prefix.{front_rest}
use Rattle.std.proofs.Math.Seq.{take-append_seam, take-length}
use Rattle.std.proofs.lemmas.List.Sums.{suffix_len_is}
use Rattle.std.proofs.lemmas.Grind.{get_or_default_zero}
use Rattle.std.proofs.lemmas.Str.{IsCharBoundary-before_ascii, IsCharBoundary-end, len_utf8_ascii}
use Rattle.std.proofs.lemmas.Slice.Eq.{bytes_eq-Decides, starts_is, ends_is}
use Rattle.std.proofs.lemmas.Str.Pattern.{NoCharPasses-char}
use Rattle.sv_mapping.specs.Pattern.{Root, Default, Extension, Prefix, Exact, form, is_at_or_below, last_segment, extension, matches}

pub same_bytes : (xs ys : List ℕ) → bytes_eq xs ys ≡ true → xs ≡ ys
same_bytes xs ys h = (bytes_eq-Decides xs ys).0 h

pub starts : (text front rest : List ℕ) → text ≡ front ++ rest → starts_with eqb text front ≡ true
starts text front rest h = (starts_is Decides-eqb text front _ refl).1 rest h

starts_not : (text front : List ℕ) → ((rest : List ℕ) → text ≡ front ++ rest → ⊥) → starts_with eqb text front ≡ false
starts_not text front none = false_from_ne_true _ (λ h. none _ ((starts_is Decides-eqb text front _ refl).0 h))

empty_from_len : (text : List ℕ) → eqb (length text) 0 ≡ true → text ≡ []
empty_from_len [] h = refl
empty_from_len (x ∷ xs) h = absurd (omega (arith, eqb-true (length (x ∷ xs)) 0 h))

empty_test : (text : List ℕ) → bytes_eq text [] ≡ eqb (length text) 0
empty_test [] = refl
empty_test (x ∷ xs) = sym (ne_eqb (length (x ∷ xs)) 0 (λ e. absurd (omega arith)))

-- The rest that `strip_prefix` and `strip_suffix` return.
pub stripped_front : (front text rest : List ℕ) → StripsPrefix (FindsTextPrefix front) text rest → text ≡ front ++ rest
stripped_front front text rest h = h.1.1 ∙ ap (λ r. front ++ r) (sym h.2)

pub stripped_end : (end text rest : List ℕ) → StripsSuffix (FindsTextSuffix end) text rest → text ≡ rest ++ end
stripped_end end text rest h = h.1.1 ∙ ap (λ r. r ++ end) (sym h.2)

-- ---- within a prefix
pub within_whole : (prefix path rest : List ℕ) → path ≡ prefix ++ rest → eqb (length rest) 0 ≡ true → is_at_or_below prefix path ≡ true
within_whole prefix path rest h empty =
    let whole : path ≡ prefix = h ∙ (ap (λ r. prefix ++ r) (empty_from_len rest empty) ∙ append-nil prefix) in
    or_left _ _ ((bytes_eq-Decides path prefix).1 whole)

pub within_rest : (prefix path rest : List ℕ) → path ≡ prefix ++ rest → eqb (length rest) 0 ≡ false → is_at_or_below prefix path ≡ eqb (get_or rest 0 0) 47
within_rest prefix path [] h some = absurd (both_ways _ some refl)
within_rest prefix path (x ∷ xs) h some =
    let longer : bytes_eq path prefix ≡ false = false_from_ne_true _ (λ same. absurd (omega (arith, ap length ((bytes_eq-Decides path prefix).0 same), ap length h, length-append prefix (x ∷ xs)))) in
    rw longer (elim (cases_Bool (eqb x 47)) [
      | inl e ↦ starts path (prefix ++ 47 ∷ []) xs (h ∙ (ap (λ b. prefix ++ b ∷ xs) (eqb-true x 47 e) ∙ sym (append_assoc prefix (47 ∷ []) xs))) ∙ sym e
      | inr e ↦ starts_not path (prefix ++ 47 ∷ []) (λ rest k. apart x xs rest e (sym (front_rest path prefix (x ∷ xs) h) ∙ front_rest path prefix (47 ∷ rest) (k ∙ append_assoc prefix (47 ∷ []) rest))) ∙ sym e
    ])
  where
    apart : (b : ℕ) (bs rest : List ℕ) → eqb b 47 ≡ false → b ∷ bs ≡ 47 ∷ rest → ⊥
    apart b bs rest e k = let same : b ≡ 47 = cc in both_ways _ e (eq-eqb b 47 same)

pub within_none : (prefix path : List ℕ) → ((rest : List ℕ) → path ≡ prefix ++ rest → ⊥) → is_at_or_below prefix path ≡ false
within_none prefix path none =
    or_from _ _ (false_from_ne_true _ (λ same. none [] ((bytes_eq-Decides path prefix).0 same ∙ sym (append-nil prefix))))
    (starts_not path (prefix ++ 47 ∷ []) (λ rest k. none (47 ∷ rest) (k ∙ append_assoc prefix (47 ∷ []) rest)))

-- The path begins with the prefix, and may be cut after it.
pub within_front : (prefix path : List ℕ) → is_at_or_below prefix path ≡ true → take (length prefix) path ≡ prefix
within_front prefix path h =
    elim (or_cases _ _ h) [
      | inl whole ↦ rw (same_bytes path prefix whole) (take-length prefix)
      | inr below ↦
          let front : path ≡ (prefix ++ 47 ∷ []) ++ drop (length (prefix ++ 47 ∷ [])) path = (starts_is Decides-eqb path (prefix ++ 47 ∷ []) _ refl).0 below in
          let cut : take (length prefix) ((prefix ++ 47 ∷ []) ++ drop (length (prefix ++ 47 ∷ [])) path) ≡ prefix = rw append_assoc (take-append_seam prefix _) in
          ap (take (length prefix)) front ∙ cut
    ]

pub within_boundary : (prefix path : List ℕ) → is_at_or_below prefix path ≡ true → IsCharBoundary path (length prefix)
within_boundary prefix path h =
    elim (or_cases _ _ h) [
      | inl whole ↦ rw (same_bytes path prefix whole) (IsCharBoundary-end prefix)
      | inr below ↦
          let front : path ≡ (prefix ++ 47 ∷ []) ++ drop (length (prefix ++ 47 ∷ [])) path = (starts_is Decides-eqb path (prefix ++ 47 ∷ []) _ refl).0 below in
          let rest : drop (length prefix) path ≡ 47 ∷ drop (length (prefix ++ 47 ∷ [])) path = front_rest path prefix _ (front ∙ append_assoc prefix (47 ∷ []) _) in
          let slash : get_or path (length prefix) 0 ≡ 47 = ap (λ n. get_or path n 0) (sym (add-zero (length prefix))) ∙ (sym (get_or-drop (length prefix) path 0 0) ∙ ap (λ r. get_or r 0 0) rest) in
          IsCharBoundary-before_ascii path (length prefix) (omega (arith, ap length rest, length-drop (length prefix) path)) (omega (arith, slash))
    ]

-- ---- after the last occurrence of a character
-- The last occurrence of the character is at i, and the rest after it begins at j.
record LastAt (c : ℕ) (text : List ℕ) (i j : ℕ) : Type 0 where
  here : get_or text i 0 ≡ c
  next : j ≡ i + 1
  none_after : (k : ℕ) → j ≤ k → k < length text → eqb (get_or text k 0) c ≡ false

last_at : (c : ℕ) (text : List ℕ) (i j : ℕ) → c < 128 → RFindsChar c text (Some (i, j)) → LastAt c text i j
last_at c text i j small found = record {
  here = found.1.byte small;
  next = found.1.ends ∙ ap (λ n. i + n) (len_utf8_ascii c small);
  none_after = λ k from within.
      let inside : k - j < length (drop j text) = omega (arith, length-drop j text) in
      let other = NoCharPasses-char c (drop j text) (k - j) found.0 small inside in
      let read : get_or (drop j text) (k - j) 0 ≡ get_or text k 0 = get_or-drop j text (k - j) 0 ∙ ap (λ n. get_or text n 0) (omega arith) in
      ne_eqb (get_or text k 0) c (λ same. other (read ∙ same));
}

after_last_at : (c : ℕ) (text : List ℕ) (i j : ℕ) → c < 128 → RFindsChar c text (Some (i, j)) → j ≤ length text → after_last (λ b. eqb b c) text ≡ drop j text
after_last_at c text i j small found fits =
    let last = last_at c text i j small found in
    let one_back : j - 1 ≡ i = omega (arith, last.next) in
    let len = suffix_len_is (λ b. not (eqb b c)) text j 0 fits (λ k from within. not_from_false _ (last.none_after k from within)) (λ _. not_from_true _ (eq-eqb _ c (ap (λ n. get_or text n 0) one_back ∙ last.here))) in
    ap (λ n. drop n text) (omega (arith, len))

pub after_last_none : (c : ℕ) (text : List ℕ) → c < 128 → NoCharPasses (λ d. eqb d c) text → after_last (λ b. eqb b c) text ≡ text
after_last_none c text small none =
    let len = suffix_len_is (λ b. not (eqb b c)) text 0 0 (omega arith) (λ k _ within. not_from_false _ (ne_eqb _ c (NoCharPasses-char c text k none small within))) (λ below. absurd (omega arith)) in
    let all : length text - suffix_len (λ b. not (eqb b c)) text ≡ 0 = omega (arith, len) in
    ap (λ n. drop n text) all

has_at : (c : ℕ) (text : List ℕ) (i j : ℕ) → c < 128 → RFindsChar c text (Some (i, j)) → j ≤ length text → list_any (λ b. eqb b c) text ≡ true
has_at c text i j small found fits =
    let last = last_at c text i j small found in
    list_any_at (λ b. eqb b c) text i 0 (omega (arith, last.next)) (eq-eqb _ c last.here)

has_none : (c : ℕ) (text : List ℕ) → c < 128 → NoCharPasses (λ d. eqb d c) text → list_any (λ b. eqb b c) text ≡ false
has_none c text small none = list_any_none (λ b. eqb b c) text (λ k d within. ne_eqb _ c (λ same. NoCharPasses-char c text k none small within (sym (get_or_default_zero text k d within) ∙ same)))

-- The rest that `rsplit_once` returns after the last occurrence of a character.
pub after_split : (c : ℕ) (text front back : List ℕ) → c < 128 → SplitsAroundMatch (RFindsChar c) text front back → after_last (λ b. eqb b c) text ≡ back
after_split c text front back small h = after_last_at c text h.0 h.1 small h.2 (omega (arith, h.7)) ∙ sym h.4

has_split : (c : ℕ) (text front back : List ℕ) → c < 128 → SplitsAroundMatch (RFindsChar c) text front back → list_any (λ b. eqb b c) text ≡ true
has_split c text front back small h = has_at c text h.0 h.1 small h.2 (omega (arith, h.7))

-- ---- extensions
pub extension_found : (path segment front back : List ℕ) → segment ≡ last_segment path → SplitsAroundMatch (RFindsChar 46) segment front back → Some back ≡ extension path
extension_found path segment front back last h =
    let dotted = has_split 46 segment front back (omega arith) h in
    let after = after_split 46 segment front back (omega arith) h in
    rw (← last) (rw (dotted, after) refl)

pub extension_none : (path segment : List ℕ) → segment ≡ last_segment path → NoCharPasses (λ d. eqb d 46) segment → None ≡ extension path
extension_none path segment last none = rw (← last) (rw (has_none 46 segment (omega arith) none) refl)

-- ---- forms
pub form-root : (text : List ℕ) → eqb (length text) 0 ≡ true → form text ≡ Root
unfolding form
form-root text empty = rw (empty_test text ∙ empty) refl

pub form-default : (text : List ℕ) → eqb (length text) 0 ≡ false → bytes_eq text (47 ∷ []) ≡ true → form text ≡ Default
unfolding form
form-default text some slash = rw (empty_test text ∙ some, slash) refl

pub form-extension : (text rest : List ℕ) → eqb (length text) 0 ≡ false → bytes_eq text (47 ∷ []) ≡ false → text ≡ 42 ∷ 46 ∷ rest → form text ≡ Extension rest
unfolding form
form-extension text rest some other front = rw (empty_test text ∙ some, other, starts text (42 ∷ 46 ∷ []) rest front) (ap Extension (ap (drop 2) front))

pub form-prefix : (text prefix : List ℕ) → eqb (length text) 0 ≡ false → bytes_eq text (47 ∷ []) ≡ false → ((rest : List ℕ) → text ≡ 42 ∷ 46 ∷ rest → ⊥) → text ≡ prefix ++ 47 ∷ 42 ∷ [] → form text ≡ Prefix prefix
unfolding form
form-prefix text prefix some other front end =
    rw (empty_test text ∙ some, other, starts_not text (42 ∷ 46 ∷ []) front, (ends_is Decides-eqb text (47 ∷ 42 ∷ []) _ refl).1 prefix end)
    (ap Prefix (ap (take (length text - 2)) end ∙ (ap (λ n. take n (prefix ++ 47 ∷ 42 ∷ [])) (omega (arith, ap length end, length-append prefix (47 ∷ 42 ∷ []))) ∙ take-append_seam prefix (47 ∷ 42 ∷ []))))

pub form-exact : (text : List ℕ) → eqb (length text) 0 ≡ false → bytes_eq text (47 ∷ []) ≡ false → ((rest : List ℕ) → text ≡ 42 ∷ 46 ∷ rest → ⊥) → ((front : List ℕ) → text ≡ front ++ 47 ∷ 42 ∷ [] → ⊥) → form text ≡ Exact text
unfolding form
form-exact text some other front end =
    rw (empty_test text ∙ some, other, starts_not text (42 ∷ 46 ∷ []) front, false_from_ne_true _ (λ h. end _ ((ends_is Decides-eqb text (47 ∷ 42 ∷ []) _ refl).0 h))) refl

pub within_from_matches : (pattern prefix path : List ℕ) → Prefix prefix ≡ form pattern → matches pattern path ≡ true → is_at_or_below prefix path ≡ true
within_from_matches pattern prefix path e h = rw (← e) at h
