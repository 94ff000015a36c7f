use Rattle.std.proofs.Common.{◌≡◌, ◌++◌, map, take}
use Rattle.std.specs.Prelude.{filter}
use Rattle.sv_audit_command.specs.Report.{fails}
use Rattle.sv_audit_command.proofs.audit_report.push_failing.Given as goal

abbrev pub invariant-loop-finding : goal.invariant-loop-finding
invariant-loop-finding l =
    map (λ finding. finding.now) l.failing.items ≡ map (λ finding. finding.now) l.initial.failing.items ++ filter (fails l.kinds) (take l.finding-index l.findings)
