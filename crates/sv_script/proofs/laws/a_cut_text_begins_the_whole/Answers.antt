use Rattle.sv_script.proofs.Cut.{a_cut_text_begins_the_whole}
use Rattle.sv_script.proofs.laws.a_cut_text_begins_the_whole.Goals as goal

pub returns : goal.returns
returns g c = a_cut_text_begins_the_whole g.R.EventHandler.steps g.R.Stops.stops g.I.Stream.makes g.O.Stream.makes
