-- The place of a context by the place of its path.
use Rattle.std.proofs.Common.{◌≡◌, ℕ, ◌+◌, Bool, cond, List, [], ◌∷◌, map, refl, sym, ◌∙◌, ap, Some}
use Rattle.std.specs.List.{position, position_from}
use Rattle.std.proofs.lemmas.Iterator.Adapters.{position_from-zero}

from_map : {X Y : Type 0} (test : Y → Bool) (f : X → Y) (place : ℕ) (xs : List X) → position_from test place (map f xs) ≡ position_from (λ x. test (f x)) place xs
from_map test f place [] = refl
from_map test f place (x ∷ xs) = ap (cond (test (f x)) (Some place)) (from_map test f (place + 1) xs)

pub position_map : {X Y : Type 0} (test : Y → Bool) (f : X → Y) (xs : List X) → position test (map f xs) ≡ position (λ x. test (f x)) xs
position_map test f xs = position_from-zero test (map f xs) ∙ from_map test f 0 xs ∙ sym (position_from-zero (λ x. test (f x)) xs)
