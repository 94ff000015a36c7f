use Rattle.std.proofs.Common.{◌≡◌, ◌++◌, take}
use Rattle.std.specs.List.{AllByRecursion, flat_map}
use Rattle.sv_saved_sessions.proofs.encoding.append_items.Given as goal

abbrev pub invariant-loop-item : goal.invariant-loop-item
invariant-loop-item g l =
    (l.out.items ≡ l.fn.out.items ++ flat_map g.T.Written.bytes (take l.item-index l.items)) × AllByRecursion g.T.Written.fits (take l.item-index l.items)
