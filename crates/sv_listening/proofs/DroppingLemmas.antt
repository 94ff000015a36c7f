-- Dropping bytes in several reads.
use Rattle.std.proofs.Common.{ℕ, ◌+◌, List, [], ◌++◌, Option, arith}
use Rattle.std.proofs.KnownBytes.{Consumes-nil, Consumes-trans}
use Rattle.std.proofs.lemmas.List.{length-append}
use Rattle.sv_listening.specs.Parting.{Drops}

-- Nothing is dropped.
pub drops_none : (at : Option (List ℕ)) (left : ℕ) → Drops at left left at
drops_none at left = ([], Consumes-nil at, omega arith)

-- The bytes dropped in two reads.
pub drops_both : (before between after : Option (List ℕ)) (left middle end : ℕ) → Drops before left middle between → Drops between middle end after → Drops before left end after
drops_both before between after left middle end (first, one, less) (second, two, least) =
    let long = length-append first second in
    (first ++ second, Consumes-trans before between after first second one two, omega arith)
