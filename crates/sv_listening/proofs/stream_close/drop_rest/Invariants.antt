use Rattle.std.proofs.Common.{◌≡◌, length}
use Rattle.sv_listening.specs.Parting.{Drops}
use Rattle.sv_listening.proofs.stream_close.drop_rest.Given as goal

abbrev pub invariant-loop : goal.invariant-loop
invariant-loop g l = Drops (g.T.Read.remaining l.fn.stream) 16777216 l.left (g.T.Read.remaining l.stream) × (length l.buffer ≡ 16384)
