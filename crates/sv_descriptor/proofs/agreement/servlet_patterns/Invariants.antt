use Rattle.std.proofs.Common.{◌≡◌, map, take}
use Rattle.std.specs.List.{flat_map}
use Rattle.sv_descriptor.proofs.agreement.servlet_patterns.Given as goal

abbrev pub invariant-loop-mapping : goal.invariant-loop-mapping
invariant-loop-mapping l = map (λ text. text.now) l.texts.items ≡ flat_map (λ mapping. mapping.url_patterns) (take l.mapping-index l.mappings)
