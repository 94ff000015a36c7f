use Rattle.std.proofs.Common.{◌≡◌, ◌++◌, map}
use Rattle.std.specs.Vec.Iter.{into_iter_items}
use Rattle.sv_audit_command.specs.ContextReports.{reported_finding}
use Rattle.sv_audit_command.proofs.context_reports.reported_findings.Given as goal

abbrev pub invariant-loop-finding : goal.invariant-loop-finding
invariant-loop-finding l = (l.reported.items ≡ map (reported_finding l.context l.patterns l.accepted) l.yielded) × (l.yielded ++ into_iter_items l.finding-iterator ≡ l.fn.findings)
