use Rattle.sv_component.specs.Steps.{steps_of}
use Rattle.sv_headline.proofs.RefutingRuns.{altered_events_are_in_no_run}
use Rattle.sv_headline.proofs.unlawful_runs.altered_events_are_in_no_run.Goals as goal

pub returns : goal.returns
returns g c =
    altered_events_are_in_no_run (steps_of g.S.Servlet.servlet_step g.F.Filter.filter_step g.L.Listener.listener_step) g.W.Words.draws
    c.runs_are_journalled.ensures c.just_one_case_holds.ensures c.runs_move_components.ensures c.feedings_may_be_cut.ensures
    c.readings_are_unique.ensures
