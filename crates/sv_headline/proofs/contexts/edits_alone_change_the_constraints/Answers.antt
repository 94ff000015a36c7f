use Rattle.sv_headline.proofs.OurContexts.{changes_constraints}
use Rattle.sv_headline.proofs.contexts.edits_alone_change_the_constraints.Goals as goal
use Rattle.sv_component.specs.Steps.{steps_of}

pub returns : goal.returns
returns g c = changes_constraints (steps_of g.S.Servlet.servlet_step g.F.Filter.filter_step g.L.Listener.listener_step) g.W.Words.draws
