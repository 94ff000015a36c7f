-- What follows from the patterns and the table of a context.
use Rattle.std.proofs.Common.{◌≡◌, ℕ, List, Option, subst}
use Rattle.sv_audit.specs.declared.rows.Table.{Table}
use Rattle.sv_audited_contexts.specs.declared.audited_context.AuditedContext.{AuditedContext}
use Rattle.sv_audit_command.specs.ContextReports.{audit_with}
use Rattle.sv_audit_command.specs.declared.access_options.Asked.{Asked}
use Rattle.sv_audit_command.specs.declared.context_patterns.ContextPatterns.{ContextPatterns}
use Rattle.sv_audit_command.specs.declared.context_reports.Audit.{Audit}

-- The same of the same patterns and the same table.
pub same_audit : (Is : Audit → Type 0) (asked : Option Asked) (accepted : List ℕ) (context : AuditedContext) (found made : ContextPatterns) (table its : Table) → found ≡ made → table ≡ its
    → Is (audit_with asked accepted context found table) → Is (audit_with asked accepted context made its)
same_audit Is asked accepted context found made table its patterns_are table_is is =
    let of_made : ContextPatterns → Type 0 = λ patterns. Is (audit_with asked accepted context patterns its) in
    let of_table : Table → Type 0 = λ one. Is (audit_with asked accepted context found one) in
    subst of_made patterns_are (subst of_table table_is is)
