use Rattle.sv_arguments.proofs.OneTopic.{one_command}
use Rattle.sv_arguments.proofs.command.arguments_name_one_command.Goals as goal

pub returns : goal.returns
returns c = one_command
