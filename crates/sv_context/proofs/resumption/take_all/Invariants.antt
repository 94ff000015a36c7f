use Rattle.std.proofs.Common.{take}
use Rattle.sv_context.specs.Resuming.{TakesAll}
use Rattle.sv_context.proofs.resumption.take_all.Given as goal

abbrev pub invariant-loop-deployment : goal.invariant-loop-deployment
invariant-loop-deployment g l = TakesAll (take l.deployment-index l.fn.deployments) l.fn.suspended.items l.taken.items l.suspended.items
