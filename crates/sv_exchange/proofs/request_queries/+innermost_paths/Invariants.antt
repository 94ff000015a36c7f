use Rattle.std.proofs.Common.{length}
use Rattle.sv_exchange.proofs.request_queries.+innermost_paths.Given as goal

abbrev pub decreases-innermost_paths : goal.decreases-innermost_paths
decreases-innermost_paths l = length l.dispatches.now
