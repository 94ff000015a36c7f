use Rattle.sv_headline.proofs.OurContexts.{Moves, ends_expired}
use Rattle.sv_headline.proofs.contexts.contexts_end_expired_sessions.Goals as goal
use Rattle.sv_component.specs.Steps.{steps_of}

pub returns : goal.returns
returns g c =
    let law = c.answers_move_the_sessions.ensures in
    let moves : Moves = record { dispatches = law.answers; steps = law.steps; join = law.join } in
    ends_expired (steps_of g.S.Servlet.servlet_step g.F.Filter.filter_step g.L.Listener.listener_step) g.W.Words.draws
    c.an_expiry_leaves_none_expired.ensures c.an_expiry_of_none_is_nothing.ensures c.no_admission_leaves_an_expired_session.ensures c.moved_sessions_are_kept.ensures.unexpired moves
