use Rattle.std.proofs.Common.{◌≡◌, ◌-◌, ◌^◌, length, min, take}
use Rattle.sv_policy.specs.Patterns.{listed_in}
use Rattle.sv_policy.proofs.edit.lists_too_many.Given as goal

abbrev pub invariant-loop-collection : goal.invariant-loop-collection
invariant-loop-collection l = l.count ≡ min (length (listed_in (take l.collection-index l.collections))) (2 ^ 64 - 1)
