use Rattle.sv_wire.proofs.ReadsLemmas as lemmas
use Rattle.sv_wire.proofs.laws.readings_join.Goals as goal

pub returns : goal.returns
returns c = lemmas.readings_join
