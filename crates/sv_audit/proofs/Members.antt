-- Members of lists.
use Rattle.std.proofs.lemmas.Bool.{false≢true}
use Rattle.std.proofs.lemmas.List.Elements.{All-cons, All-nil}
use Rattle.std.proofs.Common.{◌≡◌, Bool, true, false, ◌||◌, List, [], ◌∷◌, refl, ap, sym, ◌∙◌, cond, inl, inr}
use Rattle.std.specs.Prelude.{All, filter}
use Rattle.std.specs.List.{flat_map, list_any}
use Rattle.sv_mapping.proofs.Tried.{In, In-cases}

pub in_along : {X : Type 0} (xs ys : List X) (x : X) → xs ≡ ys → In x xs → In x ys
in_along xs ys x same there = rw (sym same) there

pub joined_from : {X Y : Type 0} (f : X → List Y) (y : Y) (xs : List X) → In y (flat_map f xs) → (x : X) × In x xs × In y (f x)
joined_from f y [] there = absurd there
joined_from f y (x ∷ xs) there =
    elim (In-cases y (f x) (flat_map f xs) there) [ inl here ↦ (x, inl refl, here) | inr later ↦ let rest = joined_from f y xs later in (rest.0, inr rest.1, rest.2) ]

pub all_from : {X : Type 0} (P : X → Type 0) (xs : List X) → ((x : X) → In x xs → P x) → All P xs
all_from P [] each = All-nil P
all_from P (x ∷ xs) each = All-cons P x xs (each x (inl refl)) (all_from P xs (λ y later. each y (inr later)))

module _ {X : Type 0} (test : X → Bool) where
  pub found_any : (xs : List X) → list_any test xs ≡ true → (x : X) × In x xs × (test x ≡ true)
  found_any [] some = absurd (false≢true some)
  found_any (x ∷ xs) some = go (test x) refl some (λ later. found_any xs later)
    where
      go : (b : Bool) → test x ≡ b → (b || list_any test xs) ≡ true → (list_any test xs ≡ true → (y : X) × In y xs × (test y ≡ true)) → (y : X) × In y (x ∷ xs) × (test y ≡ true)
      go true is h below = (x, inl refl, is)
      go false is h below = let rest = below h in (rest.0, inr rest.1, rest.2)

  pub any_found : (x : X) (xs : List X) → In x xs → test x ≡ true → list_any test xs ≡ true
  any_found x [] there passes = absurd there
  any_found x (y ∷ ys) (inl same) passes = ap (λ b. b || list_any test ys) (ap test (sym same) ∙ passes)
  any_found x (y ∷ ys) (inr later) passes = go (test y) (any_found x ys later passes)
    where
      go : (b : Bool) → list_any test ys ≡ true → (b || list_any test ys) ≡ true
      go true below = refl
      go false below = below

pub kept_in : {X : Type 0} (test : X → Bool) (x : X) (xs : List X) → In x (filter test xs) → In x xs
kept_in test x [] there = absurd there
kept_in test x (y ∷ ys) there = go (test y) there (λ later. kept_in test x ys later)
  where
    go : (b : Bool) → In x (cond b (y ∷ filter test ys) (filter test ys)) → (In x (filter test ys) → In x ys) → In x (y ∷ ys)
    go true (inl same) below = inl same
    go true (inr later) below = inr (below later)
    go false later below = inr (below later)

pub in_kept : {X : Type 0} (test : X → Bool) (x : X) (xs : List X) → In x xs → test x ≡ true → In x (filter test xs)
in_kept test x [] there passes = absurd there
in_kept test x (y ∷ ys) (inl same) passes = in_along (y ∷ filter test ys) (filter test (y ∷ ys)) x (sym (ap (λ b. cond b (y ∷ filter test ys) (filter test ys)) (ap test (sym same) ∙ passes))) (inl same)
in_kept test x (y ∷ ys) (inr later) passes = go (test y) (in_kept test x ys later passes)
  where
    go : (b : Bool) → In x (filter test ys) → In x (cond b (y ∷ filter test ys) (filter test ys))
    go true below = inr below
    go false below = below
