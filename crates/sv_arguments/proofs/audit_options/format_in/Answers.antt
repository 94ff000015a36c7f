use Rattle.std.proofs.Common.{subst, sym}
use Rattle.sv_arguments.proofs.Saying.{says_found, usual_found}
use Rattle.sv_arguments.proofs.Setting.{value_proper}
use Rattle.sv_arguments.proofs.audit_options.format_in.Goals as goal
use Rattle.sv_arguments.specs.AuditWords.{IsFormat}
use Rattle.sv_arguments.specs.Settings.{values}
use Rattle.sv_arguments.specs.Values.{SaysOr}
use Rattle.sv_arguments.specs.declared.key.Key.TheVariants.{Format}
use Rattle.sv_audit_command.specs.declared.access_options.Format as report
use Rattle.sv_audit_command.specs.declared.access_options.Format.TheVariants.{Text}

pub returns-in-Some : goal.returns-in-Some
returns-in-Some c = λ settings are.
    let Is : report.Format → Type 0 = λ form. SaysOr Text IsFormat (values Format settings) form in
    subst Is (sym c.unwrap_or.ensures)
    (usual_found IsFormat Text (values Format settings) c.format_named.result
    (says_found IsFormat (values Format settings) c.in-Some.name c.format_named.result (c.in-Some.ensures settings are)
    (λ word is. value_proper c.args.given.now.set Format word settings are.1.0 is) c.format_named.ensures))
