use Rattle.std.proofs.Common.{◌≡◌, ap, subst, ◌∙◌}
use Rattle.sv_component.specs.Steps.{steps_of}
use Rattle.sv_context.proofs.Resumptions.{resumed_so}
use Rattle.sv_context.specs.Deployment.{no_sessions}
use Rattle.sv_context.specs.Resuming.{ResumesWith}
use Rattle.sv_context.specs.State.{ContextState, context_of}
use Rattle.sv_descriptor.specs.declared.web_app.WebApp.{WebApp}
use Rattle.sv_session.specs.Store.{SessionsState}
use Rattle.sv_context.proofs.context.Context.resume.Goals as goal

pub returns : goal.returns
returns g c =
    let moving = steps_of g.S.Servlet.servlet_step g.F.Filter.filter_step g.L.Listener.listener_step in
    let inside = c.self.inside in
    let content = inside.responder.site in
    let resumes = c.args.resumption in
    let limit = c.session_limits-limit.ensures.limit ∙ ap (λ (app : WebApp). (no_sessions app).limit) c.descriptor.ensures.value in
    let interval = c.session_limits-limit.ensures.interval ∙ ap (λ (app : WebApp). (no_sessions app).interval) c.descriptor.ensures.value in
    let limited : c.set_limits.new.self.store ≡ record resumes.sessions.store { limit = (no_sessions content.app).limit; interval = (no_sessions content.app).interval } =
    ap (λ (state : SessionsState). state.store) c.set_limits.ensures ∙ (λ i. record resumes.sessions.store { limit = limit i; interval = interval i }) in
    subst (λ (before : ContextState g.row.S.Denot g.row.F.Denot g.row.L.Denot). ResumesWith moving resumes before c.args.journal.now
    (context_of content resumes.policy inside.users c.end_strangers.new.live c.end_strangers.new.sessions.store) c.end_strangers.new.journal)
    c.self.view_is
    (resumed_so moving content inside.policy inside.users inside.responder.live c.end_strangers.new.live inside.sessions.store c.set_limits.new.self.store
    c.end_strangers.new.sessions.store resumes c.args.journal.now c.end_strangers.new.journal c.self.invariant limited c.end_strangers.ensures)
