use Rattle.std.proofs.Common.{◌≡◌, ◌++◌, map, take}
use Rattle.sv_audit_command.proofs.context_patterns.push_names.Given as goal

abbrev pub invariant-loop-pattern : goal.invariant-loop-pattern
invariant-loop-pattern l = l.names.items ≡ l.initial.names.items ++ map (λ pattern. l.name) (take l._pattern-index l.patterns)
