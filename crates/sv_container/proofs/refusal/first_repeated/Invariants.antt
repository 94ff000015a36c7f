use Rattle.sv_descriptor.proofs.Differing.{Distinct}
use Rattle.sv_container.proofs.refusal.first_repeated.Given as goal

abbrev pub invariant-loop-deployment : goal.invariant-loop-deployment
invariant-loop-deployment g l = Distinct (λ deployment. deployment.path) l.fn.deployments l.names l.deployment-index
