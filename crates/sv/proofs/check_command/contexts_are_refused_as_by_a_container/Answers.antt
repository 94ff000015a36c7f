use Rattle.sv.proofs.RefusedContexts.{as_container}
use Rattle.sv.proofs.check_command.contexts_are_refused_as_by_a_container.Goals as goal

pub returns : goal.returns
returns c = as_container
