use Rattle.sv_report.proofs.FoldedLemmas.{parts_keep_characters}
use Rattle.sv_report.proofs.folded_lines.parts_keep_characters.Goals as goal

pub returns : goal.returns
returns c = parts_keep_characters
