use Rattle.std.proofs.Common.{length}
use Rattle.sv_exchange.proofs.parameters.+first_of_dispatches.Given as goal

abbrev pub decreases-first_of_dispatches : goal.decreases-first_of_dispatches
decreases-first_of_dispatches l = length l.dispatches.now
