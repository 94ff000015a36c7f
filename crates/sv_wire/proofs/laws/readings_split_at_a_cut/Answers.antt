use Rattle.sv_wire.proofs.ReadsLemmas as lemmas
use Rattle.sv_wire.proofs.laws.readings_split_at_a_cut.Goals as goal

pub returns : goal.returns
returns c = lemmas.readings_split_at_a_cut
