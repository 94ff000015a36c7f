use Rattle.sv_headline.proofs.Recording.{every_run_is_lawful}
use Rattle.sv_headline.proofs.record.every_run_is_lawful.Goals as goal
use Rattle.sv_component.specs.Steps.{steps_of}

pub returns : goal.returns
returns g c =
    every_run_is_lawful (steps_of g.S.Servlet.servlet_step g.F.Filter.filter_step g.L.Listener.listener_step) g.W.Words.draws
    c.runs_are_journalled.ensures c.just_one_case_holds.ensures c.runs_move_components.ensures
