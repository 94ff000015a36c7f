-- The shortest front that passes a test, and the cut of a text from its stream.
use Rattle.std.proofs.Common.{◌≡◌, ℕ, zero, suc, ◌<◌, ◌≤◌, Bool, true, false, List, [], ◌∷◌, ◌++◌, length, take, Option, None, Some, refl, sym, ap, ◌∙◌, subst, cond, ltb, ◌⊎◌, inl, inr, arith, length-append}
use Rattle.std.specs.Option.{option_map}
use Rattle.std.proofs.lemmas.Bool.{le-ltb, ltb-true, ltb-false, cond-false}
use Rattle.std.proofs.lemmas.List.{take-take, take_all, length-take, take-append-le}
use Rattle.sv_text.specs.declared.front.Cut.{Cut}
use Rattle.sv_text.specs.declared.front.Cut.TheVariants.{Whole, Endless, Unended}
use Rattle.sv_text.specs.Front.{shortest_front, cut_at, cut}

-- n is the length of the shortest front of the text that passes the test.
pub record IsShortestFront (test : List ℕ → Bool) (text : List ℕ) (n : ℕ) : Type 0 where
  pub fits : n ≤ length text
  pub passes : test (take n text) ≡ true
  pub first : (k : ℕ) → k < n → test (take k text) ≡ false

-- ---- the definition

at_once : (test : List ℕ → Bool) (text : List ℕ) (n : ℕ) → test [] ≡ true → 0 ≡ n → IsShortestFront test text n
at_once test text n pass same =
    subst (λ m. IsShortestFront test text m) same
    (record { fits = omega arith; passes = pass; first = λ k below. absurd (omega arith) })

before : (test : List ℕ → Bool) (b : ℕ) (text : List ℕ) (m : ℕ) → test [] ≡ false
    → ((k : ℕ) → k < m → test (b ∷ take k text) ≡ false)
    → (k : ℕ) → k < suc m → test (take k (b ∷ text)) ≡ false
before test b text m fail first zero below = fail
before test b text m fail first (suc k) below = first k (omega arith)

one_later : (test : List ℕ → Bool) (b : ℕ) (text : List ℕ) (m n : ℕ) → test [] ≡ false → suc m ≡ n
    → IsShortestFront (λ front. test (b ∷ front)) text m → IsShortestFront test (b ∷ text) n
one_later test b text m n fail same found =
    subst (λ k. IsShortestFront test (b ∷ text) k) same
    (record { fits = omega (arith, found.fits); passes = found.passes; first = before test b text m fail found.first })

by_rest : (test : List ℕ → Bool) (b : ℕ) (text : List ℕ) (n : ℕ) → test [] ≡ false
    → ((m : ℕ) → shortest_front (λ front. test (b ∷ front)) text ≡ Some m → IsShortestFront (λ front. test (b ∷ front)) text m)
    → (o : Option ℕ) → shortest_front (λ front. test (b ∷ front)) text ≡ o → option_map suc o ≡ Some n
    → IsShortestFront test (b ∷ text) n
by_rest test b text n fail later None none found = absurd (cc)
by_rest test b text n fail later (Some m) some found = one_later test b text m n fail (cc) (later m some)

by_front : (test : List ℕ → Bool) (b : ℕ) (text : List ℕ) (n : ℕ)
    → ((m : ℕ) → shortest_front (λ front. test (b ∷ front)) text ≡ Some m → IsShortestFront (λ front. test (b ∷ front)) text m)
    → (t : Bool) → test [] ≡ t → cond t (Some 0) (option_map suc (shortest_front (λ front. test (b ∷ front)) text)) ≡ Some n
    → IsShortestFront test (b ∷ text) n
by_front test b text n later true pass found = at_once test (b ∷ text) n pass (cc)
by_front test b text n later false fail found = by_rest test b text n fail later _ refl found

shortest_front-is : (test : List ℕ → Bool) (text : List ℕ) (n : ℕ) → shortest_front test text ≡ Some n
    → IsShortestFront test text n
shortest_front-is test [] n found = by_test (test []) refl found
  where
    by_test : (t : Bool) → test [] ≡ t → cond t (Some 0) None ≡ Some n → IsShortestFront test [] n
    by_test true pass same = at_once test [] n pass (cc)
    by_test false fail same = absurd (cc)
shortest_front-is test (b ∷ text) n found =
    by_front test b text n (shortest_front-is (λ front. test (b ∷ front)) text) (test []) refl found

pub shortest_front_some : (test : List ℕ → Bool) (text : List ℕ) (n : ℕ) → IsShortestFront test text n
    → shortest_front test text ≡ Some n
shortest_front_some test [] n found =
    let none : n ≡ 0 = omega (arith, found.fits) in
    let pass : test [] ≡ true = rw none at found.passes in
    rw (pass, none)
shortest_front_some test (b ∷ text) zero found = rw found.passes
shortest_front_some test (b ∷ text) (suc n) found =
    let fail : test [] ≡ false = found.first 0 (omega arith) in
    let later : shortest_front (λ front. test (b ∷ front)) text ≡ Some n = shortest_front_some (λ front. test (b ∷ front)) text n
    (record { fits = omega (arith, found.fits); passes = found.passes; first = λ k below. found.first (suc k) (omega arith) }) in
    rw (fail, later)

pub shortest_front_none : (test : List ℕ → Bool) (text : List ℕ)
    → ((k : ℕ) → k ≤ length text → test (take k text) ≡ false) → shortest_front test text ≡ None
shortest_front_none test [] fails = rw (fails 0 (omega arith))
shortest_front_none test (b ∷ text) fails =
    let later : shortest_front (λ front. test (b ∷ front)) text ≡ None =
    shortest_front_none (λ front. test (b ∷ front)) text (λ k within. fails (suc k) (omega arith)) in
    rw (fails 0 (omega arith), later)

none_later : (o : Option ℕ) → option_map suc o ≡ None → o ≡ None
none_later None none = refl
none_later (Some m) none = absurd (cc)

shortest_front_none-is : (test : List ℕ → Bool) (text : List ℕ) → shortest_front test text ≡ None
    → (k : ℕ) → k ≤ length text → test (take k text) ≡ false
shortest_front_none-is test [] none k within = by_test (test []) refl none
  where
    by_test : (t : Bool) → test [] ≡ t → cond {A = Option ℕ} t (Some 0) None ≡ None → test (take k []) ≡ false
    by_test true pass same = absurd (cc)
    by_test false fail same = let start : k ≡ 0 = omega arith in rw start fail
shortest_front_none-is test (b ∷ text) none zero within = by_test (test []) refl none
  where
    by_test : (t : Bool) → test [] ≡ t
        → cond t (Some 0) (option_map suc (shortest_front (λ front. test (b ∷ front)) text)) ≡ None
        → test [] ≡ false
    by_test true pass same = absurd (cc)
    by_test false fail same = fail
shortest_front_none-is test (b ∷ text) none (suc k) within =
    by_test (shortest_front_none-is (λ front. test (b ∷ front)) text) (test []) none
  where
    by_test : (shortest_front (λ front. test (b ∷ front)) text ≡ None → (n : ℕ) → n ≤ length text → test (b ∷ take n text) ≡ false)
        → (t : Bool)
        → cond t (Some 0) (option_map suc (shortest_front (λ front. test (b ∷ front)) text)) ≡ None
        → test (b ∷ take k text) ≡ false
    by_test later true same = absurd (cc)
    by_test later false same = later (none_later _ same) k (omega arith)

-- ---- cuts

Whole-inverse : (limit : ℕ) (text : List ℕ) (o : Option ℕ) (n : ℕ) → cut_at limit text o ≡ Whole n → o ≡ Some n
Whole-inverse limit text None n is = by_test (ltb (length text) limit) is
  where
    by_test : (t : Bool) → cond t Unended Endless ≡ Whole n → None ≡ Some n
    by_test true same = absurd (cc)
    by_test false same = absurd (cc)
Whole-inverse limit text (Some m) n is = cc

pub Endless-inverse : (limit : ℕ) (text : List ℕ) (o : Option ℕ) → cut_at limit text o ≡ Endless → (o ≡ None) × (limit ≤ length text)
Endless-inverse limit text None is = (refl, by_test (ltb (length text) limit) refl is)
  where
    by_test : (t : Bool) → ltb (length text) limit ≡ t → cond t Unended Endless ≡ Endless → limit ≤ length text
    by_test true below same = absurd (cc)
    by_test false above same = ltb-false (length text) limit above
Endless-inverse limit text (Some m) is = absurd (cc)

pub Unended-inverse : (limit : ℕ) (text : List ℕ) (o : Option ℕ) → cut_at limit text o ≡ Unended → (o ≡ None) × (length text < limit)
Unended-inverse limit text None is = (refl, by_test (ltb (length text) limit) refl is)
  where
    by_test : (t : Bool) → ltb (length text) limit ≡ t → cond t Unended Endless ≡ Unended → length text < limit
    by_test true below same = ltb-true (length text) limit below
    by_test false above same = absurd (cc)
Unended-inverse limit text (Some m) is = absurd (cc)

-- If a text has no end, none of its fronts has one.
pub cut_unended-fronts : (ends : List ℕ → Bool) (limit : ℕ) (text : List ℕ) → cut ends limit text ≡ Unended
    → (k : ℕ) → k ≤ length text → ends (take k text) ≡ false
cut_unended-fronts ends limit text is =
    let none = Unended-inverse limit text (shortest_front ends (take limit text)) is in
    let short : length text ≤ limit = omega (arith, none.1) in
    shortest_front_none-is ends text (ap (shortest_front ends) (sym (take_all limit text short)) ∙ none.0)

module _ (ends : List ℕ → Bool) (limit : ℕ) (text : List ℕ) where
  pub cut-whole : (n : ℕ) → cut ends limit text ≡ Whole n → IsShortestFront ends (take limit text) n
  cut-whole n is = shortest_front-is ends (take limit text) n (Whole-inverse limit text _ n is)

  same_front : (more : List ℕ) (k : ℕ) → k ≤ length (take limit text) → take k (take limit (text ++ more)) ≡ take k (take limit text)
  same_front more k within =
      let below : k ≤ limit = omega (arith, length-take limit text) in
      let inside : k ≤ length text = omega (arith, length-take limit text) in
      take-take k limit (text ++ more) below ∙ take-append-le k text more inside ∙ sym (take-take k limit text below)

  -- A cut that was found stays the same, whatever follows.
  pub cut-append : (more : List ℕ) (c : Cut) → cut ends limit text ≡ c → (c ≡ Unended) ⊎ (cut ends limit (text ++ more) ≡ c)
  cut-append more (Whole n) is =
      let found = cut-whole n is in
      let there : IsShortestFront ends (take limit (text ++ more)) n = record {
        fits = omega (arith, found.fits, length-take limit text, length-take limit (text ++ more), length-append text more);
        passes = ap ends (same_front more n found.fits) ∙ found.passes;
        first = λ k below. ap ends (same_front more k (omega (arith, found.fits))) ∙ found.first k below;
      } in
      inr (ap (cut_at limit (text ++ more)) (shortest_front_some ends (take limit (text ++ more)) n there))
  cut-append more Endless is =
      let none = Endless-inverse limit text _ is in
      let same : take limit (text ++ more) ≡ take limit text = take-append-le limit text more none.1 in
      let long : ltb (length (text ++ more)) limit ≡ false = le-ltb _ _ (omega (arith, none.1, length-append text more)) in
      inr (ap (cut_at limit (text ++ more)) (ap (shortest_front ends) same ∙ none.0) ∙ cond-false _ Unended Endless long)
  cut-append more Unended is = inl refl
