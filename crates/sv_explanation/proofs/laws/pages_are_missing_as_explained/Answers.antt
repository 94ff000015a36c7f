use Rattle.sv_explanation.proofs.KnownFiles.{missing_pages}
use Rattle.sv_explanation.proofs.laws.pages_are_missing_as_explained.Goals as goal

pub returns : goal.returns
returns c = missing_pages
