-- What follows from each item that passes follows if some item passes.
use Rattle.std.proofs.lemmas.Bool.{false≢true}
use Rattle.std.proofs.lemmas.List.Elements.{All-head, All-tail}
use Rattle.std.proofs.Common.{◌≡◌, Bool, true, false, ◌||◌, List, [], ◌∷◌, refl}
use Rattle.std.specs.Prelude.{All}
use Rattle.std.specs.List.{list_any}

module _ {X : Type 0} (R : Type 0) (test : X → Bool) where
  found_at : (x : X) (xs : List X) (b : Bool) → test x ≡ b → (b || list_any test xs) ≡ true → All (λ y. test y ≡ true → R) (x ∷ xs) → (list_any test xs ≡ true → R) → R
  found_at x xs true is some all rest = All-head (λ y. test y ≡ true → R) x xs all is
  found_at x xs false is some all rest = rest some

  pub found : (xs : List X) → list_any test xs ≡ true → All (λ y. test y ≡ true → R) xs → R
  found [] some all = absurd (false≢true some)
  found (x ∷ xs) some all = found_at x xs (test x) refl some all (λ there. found xs there (All-tail (λ y. test y ≡ true → R) x xs all))
