use Rattle.std.proofs.Common.{refl}
use Rattle.sv_arguments.proofs.Tables.{has_options, has_usage, listed_key, own_keys}
use Rattle.sv_arguments.specs.Topics.{topic_names}
use Rattle.sv_arguments.proofs.usage.the_manual_is_of_this_program.Goals as goal

pub returns-clause-commands : goal.returns-clause-commands
unfolding topic_names
returns-clause-commands c = refl

pub returns-clause-usages : goal.returns-clause-usages
returns-clause-usages c = has_usage

pub returns-clause-options : goal.returns-clause-options
returns-clause-options c = has_options

pub returns-clause-all_keys : goal.returns-clause-all_keys
returns-clause-all_keys c = listed_key

pub returns-clause-own_keys : goal.returns-clause-own_keys
returns-clause-own_keys c = own_keys
