use Rattle.std.proofs.Common.{◌≡◌, ◌++◌, take, not}
use Rattle.std.specs.Prelude.{filter}
use Rattle.sv_constraints.specs.Covering.{lists}
use Rattle.sv_difference.proofs.method_sets.push_unlisted.Given as goal

abbrev pub invariant-loop-text : goal.invariant-loop-text
invariant-loop-text l = l.copies.items ≡ l.initial.copies.items ++ filter (λ text. not (lists l.others text)) (take l.text-index l.texts)
