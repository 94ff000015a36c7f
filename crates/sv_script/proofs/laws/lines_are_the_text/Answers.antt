use Rattle.sv_script.proofs.LineLemmas.{lines_apart, lines_whole}
use Rattle.sv_script.proofs.laws.lines_are_the_text.Goals as goal

pub returns-clause-whole : goal.returns-clause-whole
returns-clause-whole c = lines_whole

pub returns-clause-apart : goal.returns-clause-apart
returns-clause-apart c = lines_apart
