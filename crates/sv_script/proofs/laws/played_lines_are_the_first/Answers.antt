use Rattle.sv_script.proofs.LineLemmas.{first_lines}
use Rattle.sv_script.proofs.laws.played_lines_are_the_first.Goals as goal

pub returns : goal.returns
returns c = first_lines
