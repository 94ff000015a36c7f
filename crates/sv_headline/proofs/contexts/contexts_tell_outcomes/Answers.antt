use Rattle.sv_headline.proofs.OurContexts.{tells_outcomes}
use Rattle.sv_headline.proofs.contexts.contexts_tell_outcomes.Goals as goal
use Rattle.sv_component.specs.Steps.{steps_of}

pub returns : goal.returns
returns g c =
    tells_outcomes (steps_of g.S.Servlet.servlet_step g.F.Filter.filter_step g.L.Listener.listener_step) g.W.Words.draws c.runs_are_journalled.ensures
