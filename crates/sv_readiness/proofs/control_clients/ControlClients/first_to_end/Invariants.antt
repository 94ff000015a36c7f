use Rattle.std.proofs.Common.{◌<◌}
use Rattle.sv_readiness.specs.declared.limits.TheConstants.{MAX_CONTROL_CLIENTS}
use Rattle.sv_readiness.proofs.control_clients.ControlClients.first_to_end.Given as goal

abbrev pub invariant-loop-place : goal.invariant-loop-place
invariant-loop-place l = l.found < MAX_CONTROL_CLIENTS
