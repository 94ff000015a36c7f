use Rattle.std.proofs.Common.{map}
use Rattle.std.specs.Vec.Iter.{into_iter_items}
use Rattle.sv_program.specs.Configuration.{each}
use Rattle.sv_web.specs.Deployments.{deployed, deployment_of}
use Rattle.sv_deployments.proofs.DeployingSteps.{one_more, seen_more}
use Rattle.sv_web.proofs.deployments.deployments_of.Goals as goal

pub loop-context-preserved : goal.loop-context-preserved
loop-context-preserved g c =
    one_more deployment_of (into_iter_items c.loop-context.context-iterator) (into_iter_items c.next.new.self) c.in-Some.context
    (deployed c.in_ok-deployment_of.field-0) (map deployed c.loop-context.deployments.items) (map deployed c.push.new.self.items) (each deployment_of c.args.contexts.items)
    c.in-Some.ensures.steps.0 (rw c.into_content.ensures at c.in_ok-deployment_of.ensures)
    (seen_more deployed c.loop-context.deployments.items c.push.new.self.items c.in_ok-deployment_of.field-0 c.in_ok-push.ensures.items)
    c.loop-context.invariant
