use Rattle.std.proofs.Common.{length}
use Rattle.sv_exchange.proofs.parameter_list.+push_dispatches.Given as goal

abbrev pub decreases-push_dispatches : goal.decreases-push_dispatches
decreases-push_dispatches l = length l.dispatches.now
