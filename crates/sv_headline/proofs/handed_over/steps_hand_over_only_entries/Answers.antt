use Rattle.sv_component.specs.Steps.{steps_of}
use Rattle.sv_headline.proofs.StepsLeaving.{steps_hand_over_only_entries}
use Rattle.sv_headline.proofs.handed_over.steps_hand_over_only_entries.Goals as goal

pub returns : goal.returns
returns g c =
    steps_hand_over_only_entries (steps_of g.S.Servlet.servlet_step g.F.Filter.filter_step g.L.Listener.listener_step) g.W.Words.draws
    c.redirects_in_runs_are_of_entries.ensures
