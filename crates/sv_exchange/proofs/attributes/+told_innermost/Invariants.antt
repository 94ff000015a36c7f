use Rattle.std.proofs.Common.{length}
use Rattle.sv_exchange.proofs.attributes.+told_innermost.Given as goal

abbrev pub decreases-told_innermost : goal.decreases-told_innermost
decreases-told_innermost l = length l.dispatches.now
