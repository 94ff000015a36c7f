use Rattle.std.proofs.Common.{◌≡◌, take}
use Rattle.sv_context.specs.Several.{paths_of}
use Rattle.sv_context.proofs.room.copies_of_paths.Given as goal

abbrev pub invariant-loop-deployment : goal.invariant-loop-deployment
invariant-loop-deployment g l = l.paths.items ≡ paths_of (take l.deployment-index l.deployments)
