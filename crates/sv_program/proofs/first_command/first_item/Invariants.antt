use Rattle.std.proofs.Common.{◌≡◌, drop}
use Rattle.sv_wire.specs.Items.{first_item}
use Rattle.sv_program.proofs.first_command.first_item.Given as goal

-- the first item is among the remaining ones
abbrev pub invariant-loop-item : goal.invariant-loop-item
invariant-loop-item l = first_item l.items ≡ first_item (drop l.item-index l.items)
