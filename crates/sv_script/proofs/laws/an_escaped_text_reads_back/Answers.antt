use Rattle.sv_script.proofs.ReadBackLemmas.{reads_back}
use Rattle.sv_script.proofs.laws.an_escaped_text_reads_back.Goals as goal

pub returns : goal.returns
returns c = reads_back
