use Rattle.std.proofs.Common.{◌≡◌, ◌++◌, take}
use Rattle.sv_audit_command.proofs.context_patterns.push_copies.Given as goal

abbrev pub invariant-loop-pattern : goal.invariant-loop-pattern
invariant-loop-pattern l = l.patterns.items ≡ l.initial.patterns.items ++ take l.pattern-index l.listed
