use Rattle.sv_component.proofs.Running as running
use Rattle.sv_component.proofs.laws.runs_are_whole.Goals as goal
use Rattle.sv_component.specs.Steps.{steps_of}

pub returns : goal.returns
returns g c before after records = (
  running.runs_grown (steps_of g.S.Servlet.servlet_step g.F.Filter.filter_step g.L.Listener.listener_step) before after records,
  λ ran from done so_far.
      running.runs_join (steps_of g.S.Servlet.servlet_step g.F.Filter.filter_step g.L.Listener.listener_step) from before after done records so_far ran,
)
