use Rattle.sv_arguments.proofs.Lines.{all_ok}
use Rattle.sv_arguments.proofs.usage.audit_detail.Goals as goal

pub returns-in-Ok : goal.returns-in-Ok
returns-in-Ok c = all_ok _ c.lacks_line.result (λ line none. absurd (none c.in-Ok.field-0 c.in-Ok.ensures.it))
