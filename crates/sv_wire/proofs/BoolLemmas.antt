-- A choice by a test with a known result.
use Rattle.std.proofs.Common.{◌≡◌, Bool, true, false, sym, subst}
use Rattle.std.specs.Bool.{MatchBool}

pub MatchBool-from_true : (t : Bool) (P Q : Type 0) → t ≡ true → P → MatchBool t P Q
MatchBool-from_true t P Q is holds = subst (λ b. MatchBool b P Q) (sym is) holds

pub MatchBool-from_false : (t : Bool) (P Q : Type 0) → t ≡ false → Q → MatchBool t P Q
MatchBool-from_false t P Q is holds = subst (λ b. MatchBool b P Q) (sym is) holds
