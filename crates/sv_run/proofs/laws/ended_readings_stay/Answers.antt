use Rattle.sv_run.proofs.Feedings as lemmas
use Rattle.sv_run.proofs.laws.ended_readings_stay.Goals as goal

pub returns : goal.returns
returns c = lemmas.readings_that_end_stay
