use Rattle.sv_component.specs.Steps.{steps_of}
use Rattle.sv_headline.proofs.OnlyEntries.{only_entries_are_dispatched}
use Rattle.sv_headline.proofs.handed_over.only_entries_are_dispatched.Goals as goal

pub returns : goal.returns
returns g c = only_entries_are_dispatched (steps_of g.S.Servlet.servlet_step g.F.Filter.filter_step g.L.Listener.listener_step)
