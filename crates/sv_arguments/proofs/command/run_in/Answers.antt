use Rattle.std.proofs.Common.{map, string_bytes}
use Rattle.sv_arguments.proofs.Naming.{only_run}
use Rattle.sv_arguments.proofs.Wrong.{not_asked}
use Rattle.sv_arguments.proofs.command.run_in.Goals as goal

pub returns-in-Err : goal.returns-in-Err
returns-in-Err c = (
  tt,
  λ any words. absurd (only_run (map string_bytes c.args.arguments.now)
      (not_asked (map string_bytes c.args.arguments.now) c.in-Err.field-0 c.in-Err.ensures.fault) any words),
)
