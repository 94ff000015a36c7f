use Rattle.sv_listening.proofs.Items as lemmas
use Rattle.sv_listening.proofs.bounds.parts_complete_little.Goals as goal

pub returns : goal.returns
returns c = lemmas.parts_complete_little
