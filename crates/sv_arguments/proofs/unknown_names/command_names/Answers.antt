use Rattle.sv_arguments.proofs.unknown_names.command_names.Goals as goal
use Rattle.sv_arguments.specs.Topics.{topic_names}
use Rattle.std.proofs.Common.{arith}
use Rattle.std.proofs.lemmas.Grind.{common_steps}

pub returns : goal.returns
unfolding topic_names
returns c = grind (arith, common_steps)
