-- The results of comparing two words.
use Rattle.std.proofs.Common.{◌≡◌, ℕ, Bool, true, false, not, List, [], ◌∷◌, length, map, eqb, refl, sym, ◌∙◌, arith}
use Rattle.std.proofs.lemmas.Bool.{eqb-true, false≢true}
use Rattle.std.proofs.lemmas.Slice.Eq.{bytes_eq-Decides}
use Rattle.std.specs.Str.{bytes_eq}

pub same_word : (word other : List ℕ) (test : Bool) → test ≡ bytes_eq word other → test ≡ true → word ≡ other
same_word word other test is so = (bytes_eq-Decides word other).0 (sym is ∙ so)

pub other_word : (word other : List ℕ) (test : Bool) → test ≡ bytes_eq word other → test ≡ false → word ≡ other → ⊥
other_word word other test is so same = false≢true (sym so ∙ is ∙ (bytes_eq-Decides word other).1 same)

pub not_other : (word other : List ℕ) (test : Bool) → test ≡ not (bytes_eq word other) → test ≡ false → word ≡ other
not_other word other test is so = by (bytes_eq word other) refl (sym is ∙ so)
  where
    by : (same : Bool) → bytes_eq word other ≡ same → not same ≡ false → word ≡ other
    by true same h = (bytes_eq-Decides word other).0 same
    by false same h = absurd (false≢true (sym h))

-- no items have no words
pub no_words : {A : Type 0} (text : A → List ℕ) (items : List A) → eqb (length items) 0 ≡ true → map text items ≡ []
no_words text [] empty = refl
no_words text (x ∷ items) empty = absurd (omega (arith, eqb-true (length (x ∷ items)) 0 empty))
