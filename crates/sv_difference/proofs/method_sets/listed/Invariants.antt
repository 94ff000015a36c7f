use Rattle.std.proofs.Common.{◌≡◌, take}
use Rattle.std.specs.Prelude.{filter}
use Rattle.sv_constraints.specs.Covering.{lists}
use Rattle.sv_difference.proofs.method_sets.listed.Given as goal

abbrev pub invariant-loop-text : goal.invariant-loop-text
invariant-loop-text l = l.copies.items ≡ filter (lists l.others) (take l.text-index l.texts)
