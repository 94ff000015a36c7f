use Rattle.std.proofs.Common.{◌≡◌, length}
use Rattle.sv_readiness.specs.Dropping.{Drops}
use Rattle.sv_readiness.proofs.drain.drop_more.Given as goal

abbrev pub invariant-loop : goal.invariant-loop
invariant-loop g l = Drops (g.R.Read.remaining l.fn.reader) l.fn.left l.left (g.R.Read.remaining l.reader) × (length l.buffer ≡ 16384)
