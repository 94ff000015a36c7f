use Rattle.std.proofs.Common.{◌≡◌, ◌++◌, take}
use Rattle.sv_chain.specs.FilterChain.{filters_of, maps_path}
use Rattle.sv_chain.proofs.chain.push_by_path.Given as goal

abbrev pub invariant-loop-mapping : goal.invariant-loop-mapping
invariant-loop-mapping l = l.places.items ≡ l.initial.places.items ++ filters_of l.filters (maps_path l.kind l.path) (take l.mapping-index l.mappings)
