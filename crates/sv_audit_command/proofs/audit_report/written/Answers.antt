use Rattle.sv_audit_command.proofs.audit_report.written.Goals as goal

pub returns-in-Html : goal.returns-in-Html
returns-in-Html c = rw c.in-Html.is c.audit_html.ensures
