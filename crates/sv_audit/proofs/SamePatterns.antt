-- Patterns are the same, or both none, exactly if the test says so.
use Rattle.std.proofs.lemmas.Bool.{false≢true}
use Rattle.std.proofs.lemmas.Slice.Eq.{bytes_eq-Decides}
use Rattle.std.proofs.Common.{◌≡◌, ℕ, true, List, refl, ap, Option, None, Some}
use Rattle.sv_audit.specs.Reading.{is_same}

pub same_decides : (a b : Option (List ℕ)) → is_same a b ≡ true → a ≡ b
same_decides None None same = refl
same_decides None (Some b) same = absurd (false≢true same)
same_decides (Some a) None same = absurd (false≢true same)
same_decides (Some a) (Some b) same = ap Some ((bytes_eq-Decides a b).0 same)

pub same_itself : (a : Option (List ℕ)) → is_same a a ≡ true
same_itself None = refl
same_itself (Some a) = (bytes_eq-Decides a a).1 refl
