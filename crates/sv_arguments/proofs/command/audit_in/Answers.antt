use Rattle.std.proofs.Common.{map, string_bytes}
use Rattle.sv_arguments.proofs.Naming.{only_audit}
use Rattle.sv_arguments.proofs.Wrong.{not_audit}
use Rattle.sv_arguments.proofs.command.audit_in.Goals as goal

pub returns-in-Err : goal.returns-in-Err
returns-in-Err c = (
  tt,
  λ any words. absurd (only_audit (map string_bytes c.args.arguments.now)
      (not_audit (map string_bytes c.args.arguments.now) c.in-Err.field-0 c.in-Err.ensures.fault) any words),
)
