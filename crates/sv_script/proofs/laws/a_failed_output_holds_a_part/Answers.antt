use Rattle.sv_script.proofs.Part.{a_failed_output_holds_a_part}
use Rattle.sv_script.proofs.laws.a_failed_output_holds_a_part.Goals as goal

pub returns : goal.returns
returns g c = a_failed_output_holds_a_part g.R.EventHandler.steps g.R.Stops.stops g.I.Stream.makes g.O.Stream.makes
