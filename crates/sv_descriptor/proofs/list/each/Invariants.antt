use Rattle.std.proofs.Common.{◌≡◌, ◌++◌, drop, map, Ok}
use Rattle.toml.specs.View.{view}
use Rattle.sv_text.specs.Steps.{◌>>=◌}
use Rattle.sv_descriptor.specs.ListOf.{each_from}
use Rattle.sv_descriptor.proofs.list.each.Given as goal

abbrev pub invariant-loop-place : goal.invariant-loop-place
invariant-loop-place g l =
    (each_from l.place (g.S.Schema.reads l.fn.item l.fn.key) (map view (drop l.place l.values)) >>= λ rest. Ok (l.outputs.items ++ rest))
    ≡ each_from 0 (g.S.Schema.reads l.fn.item l.fn.key) (map view l.values)
