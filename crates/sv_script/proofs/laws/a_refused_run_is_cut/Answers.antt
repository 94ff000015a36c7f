use Rattle.sv_script.proofs.Cut.{a_refused_run_is_cut}
use Rattle.sv_script.proofs.laws.a_refused_run_is_cut.Goals as goal

pub returns : goal.returns
returns g c = a_refused_run_is_cut g.R.EventHandler.steps g.R.Stops.stops g.I.Stream.makes g.O.Stream.makes
