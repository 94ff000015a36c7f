use Rattle.std.proofs.Common.{◌≡◌, take}
use Rattle.std.specs.Option.{option_copied}
use Rattle.sv_mapping.specs.BestMatch.{best_pattern}
use Rattle.sv_explanation.specs.Servlets.{mapped_patterns}
use Rattle.sv_explanation.proofs.servlets.best_of.Given as goal

abbrev pub invariant-loop-mapping : goal.invariant-loop-mapping
invariant-loop-mapping l = option_copied l.best ≡ best_pattern (mapped_patterns (take l.mapping-index l.mappings)) l.path
