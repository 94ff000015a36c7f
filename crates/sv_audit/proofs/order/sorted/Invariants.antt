use Rattle.std.proofs.Common.{◌≡◌, map, take}
use Rattle.sv_policy.specs.Uncovered.{rising}
use Rattle.sv_audit.proofs.order.sorted.Given as goal

abbrev pub invariant-loop-text : goal.invariant-loop-text
invariant-loop-text l = map (λ text. text.now) l.set.keys ≡ rising (map (λ text. text.now) (take l.text-index l.texts))
