use Rattle.std.proofs.Common.{◌≡◌, take}
use Rattle.sv_audit_command.specs.ContextReports.{nested_paths}
use Rattle.sv_audit_command.proofs.context_reports.nested_paths.Given as goal

abbrev pub invariant-loop-other : goal.invariant-loop-other
invariant-loop-other l = l.nested.items ≡ nested_paths (take l.other-index l.paths) l.path
