-- A loop that looks for the first item that passes, or whose text does.
use Rattle.std.proofs.Common.{◌≡◌, ℕ, ◌+◌, ◌<◌, ◌≤◌, Bool, true, false, List, Option, Some, None, length, drop, map, get_or, add-one, drop-cons}
use Rattle.std.proofs.lemmas.List.{drop_all}
use Rattle.std.specs.List.{find}

module _ {X : Type 0} (p : X → Bool) (xs : List X) (at : ℕ) (answer : Option X) (d : X) (within : at < length xs) where
  pub item_fails : p (get_or xs at d) ≡ false → find p (drop at xs) ≡ answer → find p (drop (at + 1) xs) ≡ answer
  item_fails fails h = rw add-one (rw (drop-cons xs at d within, fails) at h)

  pub item_passes : p (get_or xs at d) ≡ true → find p (drop at xs) ≡ answer → Some (get_or xs at d) ≡ answer
  item_passes passes h = rw (drop-cons xs at d within, passes) at h

pub items_end : {X : Type 0} (p : X → Bool) (xs : List X) (at : ℕ) (answer : Option X) → length xs ≤ at → find p (drop at xs) ≡ answer → None ≡ answer
items_end p xs at answer ends h = rw (drop_all at xs ends) at h

module _ {X Y : Type 0} (f : X → Y) (p : Y → Bool) (xs : List X) (at : ℕ) (answer : Option Y) (x : X) (within : at < length xs) (is : x ≡ get_or xs at x) where
  pub find_next : p (f x) ≡ false → find p (map f (drop at xs)) ≡ answer → find p (map f (drop (at + 1) xs)) ≡ answer
  find_next fails h = rw add-one (rw (drop-cons xs at x within, ← is, fails) at h)

  pub find_stop : p (f x) ≡ true → find p (map f (drop at xs)) ≡ answer → Some (f x) ≡ answer
  find_stop passes h = rw (drop-cons xs at x within, ← is, passes) at h
