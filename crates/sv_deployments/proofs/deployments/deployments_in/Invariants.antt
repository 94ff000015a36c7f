use Rattle.std.proofs.Common.{◌≡◌, ◌++◌, Ok}
use Rattle.std.specs.Vec.Iter.{into_iter_items}
use Rattle.sv_text.specs.Steps.{◌>>=◌}
use Rattle.sv_program.specs.Configuration.{each}
use Rattle.sv_deployments.specs.Deployments.{deployment_of, deployments}
use Rattle.sv_deployments.proofs.deployments.deployments_in.Given as goal

-- the remaining contexts give the remaining deployments
abbrev pub invariant-loop-context : goal.invariant-loop-context
invariant-loop-context l =
    (each deployment_of (into_iter_items l.context-iterator) >>= λ rest. Ok (deployments l.deployments.items ++ rest)) ≡ each deployment_of l.fn.contexts
