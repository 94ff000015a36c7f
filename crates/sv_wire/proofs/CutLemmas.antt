-- A cut from a stream does not change when more bytes follow.
use Rattle.std.proofs.Common.{◌≡◌, ℕ, ◌≤◌, ◌⊎◌, Bool, List, ◌++◌, length, inl, inr, arith, length-take}
use Rattle.sv_text.proofs.FrontLemmas.{cut-append, cut-whole}
use Rattle.sv_text.specs.declared.front.Cut.TheVariants.{Whole, Unended}
use Rattle.sv_text.specs.Front.{cut}

module _ (ends : List ℕ → Bool) (limit : ℕ) (text more : List ℕ) (len : ℕ) (is : cut ends limit text ≡ Whole len) where
  pub whole_stays : cut ends limit (text ++ more) ≡ Whole len
  whole_stays = by_cut (cut-append ends limit text more (Whole len) is)
    where
      by_cut : (Whole len ≡ Unended) ⊎ (cut ends limit (text ++ more) ≡ Whole len) → cut ends limit (text ++ more) ≡ Whole len
      by_cut (inl none) = absurd (cc)
      by_cut (inr same) = same

pub whole_fits : (ends : List ℕ → Bool) (limit : ℕ) (text : List ℕ) (len : ℕ) → cut ends limit text ≡ Whole len → len ≤ length text
whole_fits ends limit text len is = omega (arith, (cut-whole ends limit text len is).fits, length-take limit text)
