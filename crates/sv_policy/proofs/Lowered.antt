-- The lesser of a stored number and a new one that counts only if a test holds.
use Rattle.std.proofs.lemmas.Bool.{false≢true}
use Rattle.std.proofs.Common.{arith, ◌≡◌, ℕ, Bool, true, false, ◌||◌, List, refl, ap, sym, ◌∙◌, min, Option, None, Some, cond}
use Rattle.std.specs.Prelude.{nat_le}
use Rattle.std.specs.Bool.{then_some}
use Rattle.std.specs.Option.{option_map_or}
use Rattle.std.specs.Str.{bytes_eq}
use Rattle.std.proofs.lemmas.Slice.Eq.{bytes_eq-Decides}
use Rattle.sv_constraints.specs.Findings.{lesser}

pub lesser_none : (found : Option ℕ) → found ≡ lesser found None
lesser_none None = refl
lesser_none (Some n) = refl

min_twice : (k n : ℕ) → min (min k n) n ≡ min k n
min_twice k n = grind arith

min_same : (n : ℕ) → min n n ≡ n
min_same n = grind arith

-- Counting a number under two tests, one after the other, counts it if one of them holds.
pub lesser_twice : (found : Option ℕ) (a b : Bool) (n : ℕ) → lesser (lesser found (then_some a n)) (then_some b n) ≡ lesser found (then_some (a || b) n)
lesser_twice None true true n = ap Some (min_same n)
lesser_twice None true false n = refl
lesser_twice None false b n = refl
lesser_twice (Some k) true true n = ap Some (min_twice k n)
lesser_twice (Some k) true false n = refl
lesser_twice (Some k) false b n = refl

pub lesser_assoc : (a b c : Option ℕ) → lesser (lesser a b) c ≡ lesser a (lesser b c)
lesser_assoc None b c = refl
lesser_assoc (Some n) None c = refl
lesser_assoc (Some n) (Some m) None = refl
lesser_assoc (Some n) (Some m) (Some k) = ap Some (grind arith)

-- Whether there is a stored number and it is at most this one.
abbrev pub at_most : Option ℕ → ℕ → Bool
at_most held number = option_map_or (λ kept. nat_le kept number) held false

min_below : (k n : ℕ) → nat_le k n ≡ true → k ≡ min k n
min_below k n below = grind arith

min_above : (k n : ℕ) → nat_le k n ≡ false → n ≡ min k n
min_above k n above = grind arith

-- A number that is not below the stored one changes nothing.
kept_same : (held : Option ℕ) (number : ℕ) → at_most held number ≡ true → held ≡ lesser held (Some number)
kept_same None number below = absurd (false≢true below)
kept_same (Some k) number below = ap Some (min_below k number below)

-- Any other number replaces the stored one.
put_same : (held : Option ℕ) (number : ℕ) → at_most held number ≡ false → Some number ≡ lesser held (Some number)
put_same None number above = refl
put_same (Some k) number above = ap Some (min_above k number above)

module _ (get : List ℕ → Option ℕ) (role : List ℕ) (number : ℕ) where
  kept_by : (other : List ℕ) (same : Bool) → (same ≡ true → role ≡ other) → at_most (get role) number ≡ true → get other ≡ lesser (get other) (then_some same number)
  kept_by other true is below = kept_same (get other) number (ap (λ q. at_most (get q) number) (sym (is refl)) ∙ below)
  kept_by other false is below = lesser_none (get other)

  pub kept : (other : List ℕ) → at_most (get role) number ≡ true → get other ≡ lesser (get other) (then_some (bytes_eq role other) number)
  kept other below = kept_by other (bytes_eq role other) (λ same. (bytes_eq-Decides role other).0 same) below

  put_by : (other : List ℕ) (same : Bool) → (same ≡ true → role ≡ other) → at_most (get role) number ≡ false → cond same (Some number) (get other) ≡ lesser (get other) (then_some same number)
  put_by other true is above = put_same (get other) number (ap (λ q. at_most (get q) number) (sym (is refl)) ∙ above)
  put_by other false is above = lesser_none (get other)

  pub put : (other : List ℕ) → at_most (get role) number ≡ false → cond (bytes_eq role other) (Some number) (get other) ≡ lesser (get other) (then_some (bytes_eq role other) number)
  put other above = put_by other (bytes_eq role other) (λ same. (bytes_eq-Decides role other).0 same) above
