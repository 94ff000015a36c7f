use Rattle.std.proofs.Common.{◌≡◌, ℕ, List, ◌++◌, length, map}
use Rattle.std.specs.List.{concat}
use Rattle.sv_streams.specs.Calls.{AreMade, Took}
use Rattle.sv_streams.proofs.stream.write_all.Given as goal

-- The sink took the bytes before the rest, in pieces.
abbrev pub invariant-loop-rest : goal.invariant-loop-rest
invariant-loop-rest g l =
    (pieces : List (List ℕ)) × AreMade g.W.Stream.makes l.fn.sink (map Took pieces) l.sink × (concat pieces ++ l.rest ≡ l.bytes)

abbrev pub decreases-loop-rest : goal.decreases-loop-rest
decreases-loop-rest g l = length l.rest
