use Rattle.std.proofs.Common.{◌≡◌, take}
use Rattle.sv_explanation.specs.Servlets.{mapped_patterns}
use Rattle.sv_explanation.proofs.servlets.mapped_patterns.Given as goal

abbrev pub invariant-loop-mapping : goal.invariant-loop-mapping
invariant-loop-mapping l = l.patterns.items ≡ mapped_patterns (take l.mapping-index l.mappings)
