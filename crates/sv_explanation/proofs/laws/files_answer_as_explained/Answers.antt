use Rattle.sv_explanation.proofs.KnownFiles.{responders}
use Rattle.sv_explanation.proofs.laws.files_answer_as_explained.Goals as goal

pub returns : goal.returns
returns c = responders
