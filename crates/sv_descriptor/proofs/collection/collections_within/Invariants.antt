use Rattle.std.proofs.Common.{◌≡◌, ◌++◌, drop, map, Ok}
use Rattle.toml.specs.View.{view}
use Rattle.sv_text.specs.Steps.{◌>>=◌}
use Rattle.sv_descriptor.specs.Collection.{collections_within}
use Rattle.sv_descriptor.proofs.collection.collections_within.Given as goal

abbrev pub invariant-loop-place : goal.invariant-loop-place
invariant-loop-place l =
    (collections_within l.place l.room l.fn.key (map view (drop l.place l.values)) >>= λ rest. Ok (l.collections.items ++ rest))
    ≡ collections_within 0 l.fn.room l.fn.key (map view l.values)
