use Rattle.std.proofs.Common.{◌≡◌, ◌++◌, map}
use Rattle.std.specs.Vec.Iter.{into_iter_items}
use Rattle.sv_audit_command.specs.ContextReports.{context_report}
use Rattle.sv_audit_command.proofs.context_reports.context_reports.Given as goal

abbrev pub invariant-loop-context : goal.invariant-loop-context
invariant-loop-context l = (l.reports.items ≡ map (context_report l.asking.viewer l.asking.accepted.now) l.yielded) × (l.yielded ++ into_iter_items l.context-iterator ≡ l.fn.contexts)
