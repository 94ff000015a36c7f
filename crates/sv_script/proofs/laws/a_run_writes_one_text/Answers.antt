use Rattle.sv_script.proofs.WholeLemmas.{one_text}
use Rattle.sv_script.proofs.laws.a_run_writes_one_text.Goals as goal

pub returns : goal.returns
returns g c started before script output result script_after output_after =
    one_text g.R.EventHandler.steps g.R.Stops.stops g.I.Stream.makes g.O.Stream.makes started before script output result script_after output_after
