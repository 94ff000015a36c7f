use Rattle.std.proofs.Common.{◌≡◌, ◌++◌, Ok, map}
use Rattle.std.specs.Vec.Iter.{into_iter_items}
use Rattle.sv_text.specs.Steps.{◌>>=◌}
use Rattle.sv_program.specs.Configuration.{each}
use Rattle.sv_web.specs.Deployments.{deployed, deployment_of}
use Rattle.sv_web.proofs.deployments.deployments_of.Given as goal

-- the remaining contexts give the remaining deployments
abbrev pub invariant-loop-context : goal.invariant-loop-context
invariant-loop-context g l =
    (each deployment_of (into_iter_items l.context-iterator) >>= λ rest. Ok (map deployed l.deployments.items ++ rest)) ≡ each deployment_of l.fn.contexts.items
