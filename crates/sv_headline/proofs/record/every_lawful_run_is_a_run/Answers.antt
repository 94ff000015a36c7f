use Rattle.sv_component.specs.Steps.{steps_of}
use Rattle.sv_headline.proofs.Completing.{every_lawful_run_is_a_run}
use Rattle.sv_headline.proofs.record.every_lawful_run_is_a_run.Goals as goal

pub returns : goal.returns
returns g c =
    every_lawful_run_is_a_run (steps_of g.S.Servlet.servlet_step g.F.Filter.filter_step g.L.Listener.listener_step) c.runs_are_journalled.ensures
    c.just_one_case_holds.ensures g.W.Words.draws
