use Rattle.std.proofs.Common.{◌≡◌, take}
use Rattle.sv_audit_command.specs.ContextPatterns.{servlet_names}
use Rattle.sv_audit_command.proofs.context_patterns.servlet_names.Given as goal

abbrev pub invariant-loop-mapping : goal.invariant-loop-mapping
invariant-loop-mapping l = l.names.items ≡ servlet_names (take l.mapping-index l.mappings)
