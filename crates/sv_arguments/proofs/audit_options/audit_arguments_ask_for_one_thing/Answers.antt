use Rattle.sv_arguments.proofs.One.{audits_one}
use Rattle.sv_arguments.proofs.audit_options.audit_arguments_ask_for_one_thing.Goals as goal

pub returns : goal.returns
returns c = audits_one
