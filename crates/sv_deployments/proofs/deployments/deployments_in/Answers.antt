use Rattle.std.specs.Vec.Iter.{into_iter_items}
use Rattle.sv_program.specs.Configuration.{each}
use Rattle.sv_deployments.specs.Deployments.{deployment, deployment_of, deployments}
use Rattle.sv_deployments.proofs.DeployingSteps.{one_more, seen_more}
use Rattle.sv_deployments.proofs.deployments.deployments_in.Goals as goal

pub loop-context-preserved : goal.loop-context-preserved
loop-context-preserved c =
    one_more deployment_of (into_iter_items c.loop-context.context-iterator) (into_iter_items c.next.new.self) c.in-Some.context (deployment c.in_ok-deployment_in.field-0)
    (deployments c.loop-context.deployments.items) (deployments c.push.new.self.items) (each deployment_of c.args.contexts)
    c.in-Some.ensures.steps.0 c.in_ok-deployment_in.ensures
    (seen_more deployment c.loop-context.deployments.items c.push.new.self.items c.in_ok-deployment_in.field-0 c.in_ok-push.ensures.items)
    c.loop-context.invariant
