use Rattle.sv_arguments.proofs.One.{ask_for_one}
use Rattle.sv_arguments.proofs.run_options.arguments_ask_for_one_thing.Goals as goal

pub returns : goal.returns
returns c = ask_for_one
