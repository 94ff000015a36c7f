use Rattle.sv_component.specs.Steps.{steps_of}
use Rattle.sv_headline.proofs.RefutingRuns.{runs_are_lawful_in_parts}
use Rattle.sv_headline.proofs.unlawful_runs.runs_are_lawful_in_parts.Goals as goal

pub returns : goal.returns
returns g c =
    runs_are_lawful_in_parts (steps_of g.S.Servlet.servlet_step g.F.Filter.filter_step g.L.Listener.listener_step) g.W.Words.draws
    c.runs_are_journalled.ensures c.just_one_case_holds.ensures c.runs_move_components.ensures
