use Rattle.sv_headline.proofs.Refusing.{until_refused}
use Rattle.sv_headline.proofs.record.every_run_is_lawful_until_memory_is_refused.Goals as goal
use Rattle.sv_component.specs.Steps.{steps_of}

pub returns : goal.returns
returns g c =
    until_refused (steps_of g.S.Servlet.servlet_step g.F.Filter.filter_step g.L.Listener.listener_step) g.W.Words.draws
    c.every_run_is_lawful.ensures c.want_of_memory_stops.ensures
