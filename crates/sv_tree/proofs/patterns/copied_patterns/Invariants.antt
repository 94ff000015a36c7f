use Rattle.std.proofs.Common.{◌≡◌, take}
use Rattle.std.specs.List.{flat_map}
use Rattle.sv_tree.proofs.patterns.copied_patterns.Given as goal

abbrev pub invariant-loop-mapping : goal.invariant-loop-mapping
invariant-loop-mapping l = l.patterns.items ≡ flat_map (λ mapping. mapping.url_patterns) (take l.mapping-index l.mappings)
