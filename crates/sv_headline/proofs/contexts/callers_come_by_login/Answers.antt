use Rattle.sv_headline.proofs.OurContexts.{Moves, gives_callers}
use Rattle.sv_headline.proofs.contexts.callers_come_by_login.Goals as goal
use Rattle.sv_component.specs.Steps.{steps_of}

pub returns : goal.returns
returns g c =
    let law = c.answers_move_the_sessions.ensures in
    let moves : Moves = record { dispatches = law.answers; steps = law.steps; join = law.join } in
    gives_callers (steps_of g.S.Servlet.servlet_step g.F.Filter.filter_step g.L.Listener.listener_step) g.W.Words.draws
    c.callers_are_entered.ensures.entered c.moved_sessions_are_kept.ensures.callers moves
