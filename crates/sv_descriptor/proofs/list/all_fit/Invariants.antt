use Rattle.std.proofs.Common.{◌≡◌, drop, map}
use Rattle.std.specs.List.{list_all}
use Rattle.toml.specs.View.{view}
use Rattle.sv_descriptor.proofs.list.all_fit.Given as goal

abbrev pub invariant-loop-value : goal.invariant-loop-value
invariant-loop-value g l = list_all (g.S.Schema.fits l.fn.item) (map view (drop l.value-index l.values)) ≡ list_all (g.S.Schema.fits l.fn.item) (map view l.values)
