use Rattle.sv_headline.proofs.OurContexts.{Moves, changes_by_calls}
use Rattle.sv_headline.proofs.contexts.sessions_of_contexts_change_by_calls.Goals as goal
use Rattle.sv_component.specs.Steps.{steps_of}

pub returns : goal.returns
returns g c =
    let law = c.answers_move_the_sessions.ensures in
    let moves : Moves = record { dispatches = law.answers; steps = law.steps; join = law.join } in
    changes_by_calls (steps_of g.S.Servlet.servlet_step g.F.Filter.filter_step g.L.Listener.listener_step) g.W.Words.draws moves
