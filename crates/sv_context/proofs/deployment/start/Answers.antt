use Rattle.std.proofs.Common.{refl, ap}
use Rattle.sv_component.specs.Steps.{steps_of}
use Rattle.sv_session.specs.Store.{SessionsState}
use Rattle.sv_context.proofs.Deployments.{components_so, deployed_so, refused_so}
use Rattle.sv_context.proofs.deployment.start.Goals as goal

pub invariant_of-result : goal.invariant_of-result
invariant_of-result g c =
    components_so (steps_of g.S.Servlet.servlet_step g.F.Filter.filter_step g.L.Listener.listener_step) c.args.deployment c.start.result c.in-Ok.live c.new-site.result _ _
    c.in-Ok.is c.new-site.ensures (rw c.as_str.ensures at c.start.ensures)

pub returns-in-Ok : goal.returns-in-Ok
returns-in-Ok g c = record {
  started = c.start.result;
  starts = rw c.as_str.ensures at c.start.ensures;
  is = deployed_so c.args.deployment c.start.result c.in-Ok.live c.new-site.result c.args.policy c.args.deployment.users c.no_sessions-sessions.result.store
      c.in-Ok.is c.new-site.ensures c.requires.policy refl (ap (λ (state : SessionsState). state.store) c.no_sessions-sessions.ensures);
}

pub returns-in-Err : goal.returns-in-Err
returns-in-Err g c = record {
  started = c.start.result;
  starts = rw c.as_str.ensures at c.start.ensures;
  is = refused_so c.args.deployment c.start.result c.in-Err.field-0 c.in-Err.is;
}
