-- Cells are equal exactly if the test says so.
use Rattle.std.proofs.lemmas.Bool.{false≢true}
use Rattle.std.proofs.Common.{arith, ◌≡◌, ℕ, Bool, true, false, not, ◌||◌, ◌&&◌, List, [], ◌∷◌, length, refl, ap, ap₂, sym, ◌∙◌, cond, Option, None, Some, zip, ◌==◌}
use Rattle.std.specs.Prelude.{filter}
use Rattle.std.specs.List.{list_all, list_any}
use Rattle.std.specs.Str.{bytes_eq}
use Rattle.std.proofs.lemmas.Slice.Eq.{bytes_eq-Decides}
use Rattle.sv_audit.proofs.Filters.{filter_none, filter_twice}
use Rattle.sv_audit.specs.Rows.{different_cells}
use Rattle.sv_audit.specs.Same.{same_access, same_cell, same_number}
use Rattle.sv_policy.specs.Sameness.{same_texts}
use Rattle.sv_audit.specs.declared.access.Access.{Access}
use Rattle.sv_audit.specs.declared.access.Access.TheVariants.{Unconstrained, Uncovered, UncoveredDenied, Precluded, NeedsTls, Everyone, AnyLogin, Roles}
use Rattle.sv_audit.specs.declared.access.Cell.{Cell}
use Rattle.sv_audit.specs.declared.rows.NamedCell.{NamedCell}

pub and_left : (a b : Bool) → (a && b) ≡ true → a ≡ true
and_left true b h = refl
and_left false b h = h

pub and_right : (a b : Bool) → (a && b) ≡ true → b ≡ true
and_right true b h = h
and_right false b h = absurd (false≢true h)

pub both : (a b : Bool) → a ≡ true → b ≡ true → (a && b) ≡ true
both a b p q = ap₂ (λ x y. x && y) p q

equal_length : (m n : ℕ) → (m == n) ≡ true → m ≡ n
equal_length m n h = grind arith

same_length : (n : ℕ) → (n == n) ≡ true
same_length n = grind arith

in_pairs : (xs ys : List (List ℕ)) → length xs ≡ length ys → list_all (λ pair. bytes_eq pair.0 pair.1) (zip xs ys) ≡ true → xs ≡ ys
in_pairs [] [] e h = refl
in_pairs [] (y ∷ ys) e h = let no : ⊥ = omega (arith, e) in absurd no
in_pairs (x ∷ xs) [] e h = let no : ⊥ = omega (arith, e) in absurd no
in_pairs (x ∷ xs) (y ∷ ys) e h =
    ap₂ (λ z zs. z ∷ zs) ((bytes_eq-Decides x y).0 (and_left (bytes_eq x y) (list_all (λ pair. bytes_eq pair.0 pair.1) (zip xs ys)) h))
    (in_pairs xs ys (omega (arith, e)) (and_right (bytes_eq x y) (list_all (λ pair. bytes_eq pair.0 pair.1) (zip xs ys)) h))

in_pairs_self : (xs : List (List ℕ)) → list_all (λ pair. bytes_eq pair.0 pair.1) (zip xs xs) ≡ true
in_pairs_self [] = refl
in_pairs_self (x ∷ xs) = both (bytes_eq x x) (list_all (λ pair. bytes_eq pair.0 pair.1) (zip xs xs)) ((bytes_eq-Decides x x).1 refl) (in_pairs_self xs)

texts_from : (xs ys : List (List ℕ)) → same_texts xs ys ≡ true → xs ≡ ys
texts_from xs ys h =
    in_pairs xs ys (equal_length (length xs) (length ys) (and_left (length xs == length ys) (list_all (λ pair. bytes_eq pair.0 pair.1) (zip xs ys)) h))
    (and_right (length xs == length ys) (list_all (λ pair. bytes_eq pair.0 pair.1) (zip xs ys)) h)

texts_self : (xs : List (List ℕ)) → same_texts xs xs ≡ true
texts_self xs = both (length xs == length xs) (list_all (λ pair. bytes_eq pair.0 pair.1) (zip xs xs)) (same_length (length xs)) (in_pairs_self xs)

number_from : (a b : Option ℕ) → same_number a b ≡ true → a ≡ b
number_from None None h = refl
number_from (Some m) (Some n) h = ap Some (equal_length m n h)
number_from None (Some n) h = absurd (false≢true h)
number_from (Some m) None h = absurd (false≢true h)

number_self : (a : Option ℕ) → same_number a a ≡ true
number_self None = refl
number_self (Some n) = same_length n

access_from : (a b : Access) → same_access a b ≡ true → a ≡ b
access_from Unconstrained Unconstrained h = refl
access_from Uncovered Uncovered h = refl
access_from UncoveredDenied UncoveredDenied h = refl
access_from Precluded Precluded h = refl
access_from NeedsTls NeedsTls h = refl
access_from Everyone Everyone h = refl
access_from AnyLogin AnyLogin h = refl
access_from (Roles xs) (Roles ys) h = ap Roles (texts_from xs ys h)
access_from a b h = absurd (false≢true h)

access_self : (a : Access) → same_access a a ≡ true
access_self Unconstrained = refl
access_self Uncovered = refl
access_self UncoveredDenied = refl
access_self Precluded = refl
access_self NeedsTls = refl
access_self Everyone = refl
access_self AnyLogin = refl
access_self (Roles xs) = texts_self xs

pub cell_from : (a b : Cell) → same_cell a b ≡ true → a ≡ b
cell_from a b h =
    let its_access : a.access ≡ b.access = access_from a.access b.access (and_left (same_access a.access b.access) (same_number a.constraint b.constraint) h) in
    let its_number : a.constraint ≡ b.constraint = number_from a.constraint b.constraint (and_right (same_access a.access b.access) (same_number a.constraint b.constraint) h) in
    ap₂ (λ x y. let made : Cell = record { access = x; constraint = y } in made) its_access its_number

pub cell_self : (a : Cell) → same_cell a a ≡ true
cell_self a = both (same_access a.access a.access) (same_number a.constraint a.constraint) (access_self a.access) (number_self a.constraint)

-- ---- The different cells have each cell once.
never_both : (a b c : Cell) (is : Bool) → same_cell a c ≡ is → a ≡ b → (not (same_cell b c) && same_cell a c) ≡ false
never_both a b c true is same = ap₂ (λ x y. not x && y) (ap (λ z. same_cell z c) (sym same) ∙ is) is
never_both a b c false is same = ap₂ (λ x y. not x && y) (ap (λ z. same_cell z c) (sym same) ∙ is) is

passes_anyway : (a b c : Cell) (is : Bool) → same_cell a c ≡ is → same_cell a b ≡ false → (not (same_cell b c) && same_cell a c) ≡ is
passes_anyway a b c false is differs = and_last (not (same_cell b c)) (same_cell a c) is
  where
    and_last : (x y : Bool) → y ≡ false → (x && y) ≡ false
    and_last true y h = h
    and_last false y h = refl
passes_anyway a b c true is differs = ap₂ (λ x y. not x && y) (other (same_cell b c) refl) is
  where
    other : (x : Bool) → same_cell b c ≡ x → same_cell b c ≡ false
    other false h = h
    other true h = let equal : a ≡ b = cell_from a c is ∙ sym (cell_from b c h) in absurd (false≢true (sym differs ∙ ap (same_cell a) (sym equal) ∙ cell_self a))

filter_agree : {A : Type 0} (p q : A → Bool) → ((x : A) → p x ≡ q x) → (xs : List A) → filter p xs ≡ filter q xs
filter_agree p q same [] = refl
filter_agree p q same (x ∷ xs) = ap₂ (λ b rest. cond b (x ∷ rest) rest) (same x) (filter_agree p q same xs)

once_at : (a b : Cell) (found : Bool) (cells : List Cell) (is : Bool) → same_cell a b ≡ is → filter (same_cell a) cells ≡ cond found (a ∷ []) [] →
    cond is (b ∷ filter (same_cell a) (filter (λ c. not (same_cell b c)) cells)) (filter (same_cell a) (filter (λ c. not (same_cell b c)) cells)) ≡ cond (is || found) (a ∷ []) []
once_at a b found cells true is below =
    ap₂ (λ x rest. x ∷ rest) (sym (cell_from a b is))
    (filter_twice (same_cell a) (λ c. not (same_cell b c)) cells ∙ filter_none (λ c. not (same_cell b c) && same_cell a c) cells (λ c. never_both a b c (same_cell a c) refl (cell_from a b is)))
once_at a b found cells false is below =
    filter_twice (same_cell a) (λ c. not (same_cell b c)) cells
    ∙ filter_agree (λ c. not (same_cell b c) && same_cell a c) (same_cell a) (λ c. passes_anyway a b c (same_cell a c) refl is) cells ∙ below

pub once : (a : Cell) (named : List NamedCell) → filter (same_cell a) (different_cells named) ≡ cond (list_any (λ one. same_cell a one.cell) named) (a ∷ []) []
once a [] = refl
once a (one ∷ named) = once_at a one.cell (list_any (λ other. same_cell a other.cell) named) (different_cells named) (same_cell a one.cell) refl (once a named)
