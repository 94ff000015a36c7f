use Rattle.std.proofs.Common.{ap, subst, ◌∙◌}
use Rattle.sv_component.specs.Steps.{steps_of}
use Rattle.sv_context.proofs.Suspensions.{suspended_so}
use Rattle.sv_context.specs.State.{ContextState}
use Rattle.sv_context.specs.Suspending.{Suspends}
use Rattle.sv_session.specs.Store.{SessionsState}
use Rattle.sv_context.proofs.context.Context.suspend.Goals as goal

pub returns : goal.returns
returns g c =
    let moving = steps_of g.S.Servlet.servlet_step g.F.Filter.filter_step g.L.Listener.listener_step in
    let inside = c.self.inside in
    subst (λ (context : ContextState g.row.S.Denot g.row.F.Denot g.row.L.Denot). Suspends moving context c.args.journal.now c.stop-parts.result
    (record { path = c.into_parts-path.result.0; users = inside.users; declared = c.declared_in.result; constraints = c.from_vec.result; greatest = c.greatest-greatest.result; sessions = inside.sessions })
    c.stop-parts.new.journal)
    c.self.view_is
    (suspended_so moving inside.responder.site inside.policy inside.users inside.responder.live inside.sessions c.new-none.result.store
    c.stop-parts.result c.args.journal.now c.stop-parts.new.journal c.into_parts-path.result.0 c.into_parts-path.result.1 c.into_parts-path.result.2
    c.declared_in.result c.from_vec.result c.greatest-greatest.result
    c.self.invariant c.into_parts-path.ensures (ap (λ (state : SessionsState). state.store.sessions) c.new-none.ensures)
    c.declared_in.ensures (c.from_vec.ensures ∙ c.into_constraints.ensures) c.greatest-greatest.ensures c.stop-parts.ensures.made)
