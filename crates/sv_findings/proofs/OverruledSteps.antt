-- The constraints that change nothing at each pattern, pattern by pattern.
use Rattle.std.proofs.lemmas.List.{flat_map_more, take_more}
use Rattle.std.proofs.lemmas.List.Folds.{list_any-append}
use Rattle.std.proofs.lemmas.Slice.Eq.{bytes_eq-Decides}
use Rattle.std.proofs.Common.{◌≡◌, ◌<◌, ◌+◌, ℕ, zero, suc, Bool, true, false, ◌||◌, ◌&&◌, List, [], ◌∷◌, ◌++◌, get_or, length, map, take, refl, ap, sym, arith, cond, ◌∙◌}
use Rattle.std.specs.Borrow.{Bor}
use Rattle.std.specs.List.{flat_map, list_all}
use Rattle.std.specs.Str.{bytes_eq}
use Rattle.sv_constraints.specs.Covering.{lists}
use Rattle.sv_policy.proofs.Grouping.{or_none, turned}
use Rattle.sv_policy.proofs.Steps.{seen_more}

-- One more pattern is entered, or none is entered for it, since it has no numbers.
module _ (numbers : List ℕ → List ℕ) (text its_text : List ℕ) where
  entered_at : (listed same : Bool) → bytes_eq text its_text ≡ same → cond same (numbers its_text) (cond listed (numbers text) []) ≡ cond (listed || same) (numbers text) []
  entered_at true true is = sym (ap numbers ((bytes_eq-Decides text its_text).0 is))
  entered_at false true is = sym (ap numbers ((bytes_eq-Decides text its_text).0 is))
  entered_at true false is = refl
  entered_at false false is = refl

  left_at : (listed same : Bool) → bytes_eq text its_text ≡ same → numbers its_text ≡ [] → cond listed (numbers text) [] ≡ cond (listed || same) (numbers text) []
  left_at true true is none = refl
  left_at false true is none = sym (ap numbers ((bytes_eq-Decides text its_text).0 is) ∙ none)
  left_at true false is none = refl
  left_at false false is none = refl

  module _ (items : List (Bor (List ℕ))) (i : ℕ) (p : Bor (List ℕ)) (within : i < length items) (at : p ≡ get_or items i p) (its : p.now ≡ its_text) where
    abbrev seen : ℕ → List (List ℕ)
    seen n = map (λ (x : Bor (List ℕ)). x.now) (take n items)

    one_more : (lists (seen i) text || bytes_eq text its_text) ≡ lists (seen (i + 1)) text
    one_more =
        ap (λ b. lists (seen i) text || b) (turned text its_text ∙ ap (λ t. bytes_eq t text) (sym its) ∙ sym (or_none (bytes_eq p.now text)))
        ∙ sym (ap (λ ps. lists ps text) (seen_more (λ x. x.now) items i p within at) ∙ list_any-append (λ listed. bytes_eq listed text) (seen i) (p.now ∷ []))

    pub entered_more : (before after : List ℕ) → before ≡ cond (lists (seen i) text) (numbers text) [] → after ≡ cond (bytes_eq text its_text) (numbers its_text) before → after ≡ cond (lists (seen (i + 1)) text) (numbers text) []
    entered_more before after was is =
        is ∙ ap (cond (bytes_eq text its_text) (numbers its_text)) was ∙ entered_at (lists (seen i) text) (bytes_eq text its_text) refl ∙ ap (λ b. cond b (numbers text) []) one_more

    pub left_out : (before : List ℕ) → before ≡ cond (lists (seen i) text) (numbers text) [] → numbers its_text ≡ [] → before ≡ cond (lists (seen (i + 1)) text) (numbers text) []
    left_out before was none = was ∙ left_at (lists (seen i) text) (bytes_eq text its_text) refl none ∙ ap (λ b. cond b (numbers text) []) one_more

-- A pattern that is not entered has no numbers.
pub all_entered : (numbers : List ℕ) (listed : Bool) → (listed ≡ false → numbers ≡ []) → cond listed numbers [] ≡ numbers
all_entered numbers true none = refl
all_entered numbers false none = sym (none refl)

-- If one item fails, not all pass.
and_false : (a : Bool) → (a && false) ≡ false
and_false true = refl
and_false false = refl

pub some_fails : {A X : Type 0} (now : A → X) (test : X → Bool) (xs : List A) (i : ℕ) (x : A) → i < length xs → test (now (get_or xs i x)) ≡ false → false ≡ list_all test (map now xs)
some_fails now test [] i x within fails = let impossible : ⊥ = omega (arith, within) in absurd impossible
some_fails now test (y ∷ xs) zero x within fails = sym (ap (λ b. b && list_all test (map now xs)) fails)
some_fails now test (y ∷ xs) (suc i) x within fails = sym (ap (λ b. test (now y) && b) (sym (some_fails now test xs i x (omega (arith, within)) fails)) ∙ and_false (test (now y)))

-- One more item is appended.
pub joined_more : {A B : Type 0} (f : A → List B) (xs : List A) (i : ℕ) (x : A) → i < length xs → x ≡ get_or xs i x → (start before after : List B) → before ≡ start ++ flat_map f (take i xs) → after ≡ before ++ f x → after ≡ start ++ flat_map f (take (i + 1) xs)
joined_more f xs i x within at start before after was pushed =
    pushed ∙ ap (λ front. front ++ f x) was ∙ flat_map_more f start (take i xs) x
    ∙ ap (λ them. start ++ flat_map f them) (ap (λ y. take i xs ++ y ∷ []) at ∙ sym (take_more xs i x within))
