use Rattle.sv_report.proofs.FoldedLemmas.{parts_fit}
use Rattle.sv_report.proofs.folded_lines.parts_fit.Goals as goal

pub returns : goal.returns
returns c = parts_fit
