use Rattle.sv_arguments.proofs.OneLine.{one_line}
use Rattle.sv_arguments.proofs.usage.wrong_arguments_have_one_line.Goals as goal

pub returns : goal.returns
returns c = one_line
