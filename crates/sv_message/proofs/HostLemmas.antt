-- Every valid host is a valid field value.
use Rattle.std.proofs.Common.{◌≡◌, ℕ, zero, suc, ◌+◌, ◌<◌, ◌≤◌, Bool, true, ◌||◌, not, ◌⊎◌, List, [], ◌∷◌, ◌++◌, length, get_or, set, take, drop, map, ◌∙◌, refl, ap, subst, inl, inr, eqb, leb, codes, arith, Result, Ok, Err}
use Rattle.std.specs.Prelude.{OnErr}
use Rattle.std.specs.List.{list_all, list_any}
use Rattle.std.specs.Char.{is_ascii_alphanumeric}
use Rattle.std.specs.Int.{is_in_range}
use Rattle.std.proofs.lemmas.Bool.{and_parts, and_from, or_cases, or_right, eqb-true, ne_eqb, leb-true, le-leb}
use Rattle.std.proofs.lemmas.List.Sums.{AllPass-from_list_all}
use Rattle.http_header.specs.FieldValue.{IsFieldValue}
use Rattle.http_header.specs.Token.{is_value_byte}
use Rattle.sv_message.specs.Host.{is_host_byte, is_host}

in_list : (b : ℕ) (marks : List ℕ) (test : ℕ → Bool) → list_any (λ mark. eqb mark b) marks ≡ true → list_all test marks ≡ true → test b ≡ true
in_list b [] test found all = absurd (cc)
in_list b (mark ∷ marks) test found all =
    by_case (in_list b marks test) (or_cases (eqb mark b) (list_any (λ m. eqb m b) marks) found) (and_parts (test mark) (list_all test marks) all)
  where
    by_case : (list_any (λ m. eqb m b) marks ≡ true → list_all test marks ≡ true → test b ≡ true)
        → (eqb mark b ≡ true) ⊎ (list_any (λ m. eqb m b) marks ≡ true) → (test mark ≡ true) × (list_all test marks ≡ true) → test b ≡ true
    by_case later (inl same) parts = subst (λ x. test x ≡ true) (eqb-true mark b same) parts.0
    by_case later (inr found) parts = later found parts.1

in_range : (b low high : ℕ) → is_in_range low high b ≡ true → 32 ≤ low → high < 127 → is_value_byte b ≡ true
in_range b low high inside below above =
    let parts = and_parts (leb low b) (leb b high) inside in
    let from = leb-true low b parts.0 in
    let to = leb-true b high parts.1 in
    or_right (eqb b 9) _
    (and_from (leb 32 b) _ (le-leb 32 b (omega (arith, from, below))) (ap not (ne_eqb b 127 (λ same. omega (arith, same, to, above)))))

letter_valid : (b : ℕ) → is_ascii_alphanumeric b ≡ true → is_value_byte b ≡ true
letter_valid b letter = by_case (or_cases _ _ letter)
  where
    by_more : (is_in_range 48 57 b ≡ true) ⊎ (is_in_range 65 90 b ≡ true) → is_value_byte b ≡ true
    by_more (inl digit) = in_range b 48 57 digit (omega arith) (omega arith)
    by_more (inr upper) = in_range b 65 90 upper (omega arith) (omega arith)

    by_case : ((is_in_range 48 57 b || is_in_range 65 90 b) ≡ true) ⊎ (is_in_range 97 122 b ≡ true) → is_value_byte b ≡ true
    by_case (inl more) = by_more (or_cases _ _ more)
    by_case (inr lower) = in_range b 97 122 lower (omega arith) (omega arith)

byte_valid : (b : ℕ) → is_host_byte b ≡ true → is_value_byte b ≡ true
byte_valid b host = by_case (or_cases (is_ascii_alphanumeric b) (list_any (λ mark. eqb mark b) (codes "-._~%!$&'()*+,;=:[]")) host)
  where
    by_case : (is_ascii_alphanumeric b ≡ true) ⊎ (list_any (λ mark. eqb mark b) (codes "-._~%!$&'()*+,;=:[]") ≡ true) → is_value_byte b ≡ true
    by_case (inl letter) = letter_valid b letter
    by_case (inr mark) = in_list b (codes "-._~%!$&'()*+,;=:[]") is_value_byte mark refl

pub host_valid : (host : List ℕ) → is_host host ≡ true → IsFieldValue host
host_valid host valid k d inside =
    byte_valid (get_or host k d) (AllPass-from_list_all is_host_byte host (and_parts (leb (length host) 255) (list_all is_host_byte host) valid).1 k d inside)

-- ---- a list whose items are replaced in order

module _ {X : Type 0} (f : X → X) where
  replaced_at : (xs : List X) (i : ℕ) (d : X) → i < length xs → get_or (map f (take i xs) ++ drop i xs) i d ≡ get_or xs i d
  replaced_at [] i d inside = absurd (omega arith)
  replaced_at (x ∷ xs) zero d inside = refl
  replaced_at (x ∷ xs) (suc i) d inside = replaced_at xs i d (omega arith)

  replaced_next : (xs : List X) (i : ℕ) (d : X) → i < length xs
      → set (map f (take i xs) ++ drop i xs) i (f (get_or xs i d)) ≡ map f (take (suc i) xs) ++ drop (suc i) xs
  replaced_next [] i d inside = absurd (omega arith)
  replaced_next (x ∷ xs) zero d inside = refl
  replaced_next (x ∷ xs) (suc i) d inside = ap (λ ys. f x ∷ ys) (replaced_next xs i d (omega arith))

  pub replaced_step : (xs items : List X) (i : ℕ) (x new : X) → items ≡ map f (take i xs) ++ drop i xs → i < length xs
      → x ≡ get_or items i x → new ≡ f x → set items i new ≡ map f (take (i + 1) xs) ++ drop (i + 1) xs
  replaced_step xs items i x new is inside here made =
      let at : x ≡ get_or xs i x = here ∙ ap (λ ys. get_or ys i x) is ∙ replaced_at xs i x inside in
      let next : i + 1 ≡ suc i = omega arith in
      rw (is, made, next) (ap (λ y. set (map f (take i xs) ++ drop i xs) i (f y)) at ∙ replaced_next xs i x inside)

on_err : {A E : Type 0} (r : Result A E) (P : Type 0) → P → OnErr r P
on_err (Ok a) P holds = tt
on_err (Err e) P holds = holds

set_kept : {X : Type 0} (xs : List X) (i : ℕ) (x : X) → x ≡ get_or xs i x → set xs i x ≡ xs
set_kept [] i x is = refl
set_kept (y ∷ xs) zero x is = ap (λ z. z ∷ xs) is
set_kept (y ∷ xs) (suc i) x is = ap (λ zs. y ∷ zs) (set_kept xs i x is)

-- Replacing an item by itself leaves the list unchanged.
pub replaced_kept : {X A E : Type 0} (f : X → X) (r : Result A E) (xs items : List X) (i : ℕ) (x new : X) → items ≡ map f (take i xs) ++ drop i xs
    → x ≡ get_or items i x → new ≡ x → OnErr r ((k : ℕ) × (set items i new ≡ map f (take k xs) ++ drop k xs))
replaced_kept f r xs items i x new is here kept = on_err r _ (i, ap (set items i) kept ∙ set_kept items i x here ∙ is)
