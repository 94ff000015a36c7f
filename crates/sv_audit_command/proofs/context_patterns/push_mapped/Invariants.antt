use Rattle.std.proofs.Common.{◌≡◌, ◌++◌, take}
use Rattle.sv_audited_contexts.specs.ServletPatterns.{mapped_patterns}
use Rattle.sv_audit_command.proofs.context_patterns.push_mapped.Given as goal

abbrev pub invariant-loop-mapping : goal.invariant-loop-mapping
invariant-loop-mapping l = l.patterns.items ≡ l.initial.patterns.items ++ mapped_patterns (take l.mapping-index l.mappings)
