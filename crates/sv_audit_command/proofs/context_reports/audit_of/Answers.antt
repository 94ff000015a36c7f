use Rattle.sv_text.specs.Gives.{GivesAnswer}
use Rattle.sv_audit_command.specs.ContextReports.{patterns_in, table_in}
use Rattle.sv_audit_command.proofs.AuditLemmas.{same_audit}
use Rattle.sv_audit_command.proofs.context_reports.audit_of.Goals as goal

pub returns : goal.returns
returns c =
    same_audit (λ audit. GivesAnswer c.audit_with.result audit) c.args.asking.viewer c.args.asking.accepted.now c.args.context.now
    c.in_ok-patterns.patterns (patterns_in c.args.context.now) c.in_ok-table.table (table_in c.args.context.now) c.in_ok-patterns.ensures c.in_ok-table.ensures
    c.audit_with.ensures
