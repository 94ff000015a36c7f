use Rattle.sv_audit_command.proofs.OtherServer.{its_contexts}
use Rattle.sv_audit_command.proofs.further_files.entries_of.Goals as goal

pub returns-in-Ok : goal.returns-in-Ok
returns-in-Ok c = λ name. its_contexts name c.args.text.now c.in-Ok.server c.in-Ok.ensures.gives
