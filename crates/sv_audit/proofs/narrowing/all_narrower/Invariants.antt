use Rattle.std.proofs.Common.{◌≡◌, map, take}
use Rattle.sv_audit.specs.Narrower.{all_narrower}
use Rattle.sv_audit.proofs.narrowing.all_narrower.Given as goal

abbrev pub invariant-loop-other : goal.invariant-loop-other
invariant-loop-other l = map (λ one. one.now) l.found.items ≡ all_narrower (map (λ one. one.now) (take l.other-index l.patterns)) l.pattern
