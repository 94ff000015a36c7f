use Rattle.sv_audit_command.proofs.MethodLemmas.{keys_tell}
use Rattle.sv_audit_command.proofs.methods_key.keys_tell_methods.Goals as goal

pub returns : goal.returns
returns c = keys_tell
