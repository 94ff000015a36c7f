use Rattle.sv_wire.proofs.ExistenceLemmas as lemmas
use Rattle.sv_wire.proofs.laws.readings_exist.Goals as goal

pub returns : goal.returns
returns c = lemmas.readings_exist
