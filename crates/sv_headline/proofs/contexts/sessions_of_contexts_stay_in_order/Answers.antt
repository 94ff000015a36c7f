use Rattle.sv_headline.proofs.OurContexts.{Moves, in_order}
use Rattle.sv_headline.proofs.contexts.sessions_of_contexts_stay_in_order.Goals as goal
use Rattle.sv_component.specs.Steps.{steps_of}

pub returns : goal.returns
returns g c =
    let law = c.answers_move_the_sessions.ensures in
    let moves : Moves = record { dispatches = law.answers; steps = law.steps; join = law.join } in
    in_order (steps_of g.S.Servlet.servlet_step g.F.Filter.filter_step g.L.Listener.listener_step)
    c.sessions_stay_in_order.ensures.empty c.sessions_stay_in_order.ensures.call c.components_keep_the_sessions.ensures.order moves
