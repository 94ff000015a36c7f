use Rattle.std.proofs.Common.{subst}
use Rattle.sv_context.proofs.Deployments.{undeployed_so}
use Rattle.sv_context.specs.Deployment.{Undeploys}
use Rattle.sv_context.specs.State.{ContextState}
use Rattle.sv_context.proofs.context.Context.undeploy.Goals as goal
use Rattle.sv_component.specs.Steps.{steps_of}

pub returns : goal.returns
returns g c =
    subst (λ (context : ContextState g.row.S.Denot g.row.F.Denot g.row.L.Denot). Undeploys (steps_of g.S.Servlet.servlet_step g.F.Filter.filter_step g.L.Listener.listener_step) context c.args.journal.now
    (record { path = c.into_parts-path.result.0; descriptor = c.into_parts-path.result.1; files = c.into_parts-path.result.2; users = c.self.inside.users; parts = c.stop-parts.result }) c.stop-parts.new.journal)
    c.self.view_is
    (undeployed_so (steps_of g.S.Servlet.servlet_step g.F.Filter.filter_step g.L.Listener.listener_step) c.self.inside.responder.site c.self.inside.policy c.self.inside.users c.self.inside.responder.live c.self.inside.sessions.store
    c.stop-parts.result c.args.journal.now c.stop-parts.new.journal c.into_parts-path.result.0 c.into_parts-path.result.1 c.into_parts-path.result.2
    c.self.invariant c.into_parts-path.ensures c.stop-parts.ensures.made)
