use Rattle.std.proofs.Common.{◌≡◌, take}
use Rattle.sv_audited_contexts.specs.ServletPatterns.{mapped_patterns}
use Rattle.sv_audited_contexts.proofs.mapped_patterns.servlet_patterns.Given as goal

abbrev pub invariant-loop-mapping : goal.invariant-loop-mapping
invariant-loop-mapping l = l.texts.items ≡ mapped_patterns (take l.mapping-index l.mappings)
