use Rattle.std.proofs.Common.{◌≡◌, take}
use Rattle.std.specs.List.{flat_map}
use Rattle.sv_tree.specs.ServletMappings.{places_beside}
use Rattle.sv_tree.proofs.patterns.servlet_places.Given as goal

abbrev pub invariant-loop-mapping : goal.invariant-loop-mapping
invariant-loop-mapping l = l.places.items ≡ flat_map (places_beside l.servlets) (take l.mapping-index l.mappings)
