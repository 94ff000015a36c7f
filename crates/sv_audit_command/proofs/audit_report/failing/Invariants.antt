use Rattle.std.proofs.Common.{◌≡◌, map, take}
use Rattle.sv_audit_command.specs.Report.{failing}
use Rattle.sv_audit_command.proofs.audit_report.failing.Given as goal

abbrev pub invariant-loop-report : goal.invariant-loop-report
invariant-loop-report l = map (λ finding. finding.now) l.failing.items ≡ failing l.kinds (take l.report-index l.reports)
