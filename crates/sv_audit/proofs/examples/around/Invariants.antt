use Rattle.std.proofs.Common.{◌≡◌, map, take}
use Rattle.sv_audit.specs.Examples.{around}
use Rattle.sv_audit.proofs.examples.around.Given as goal

abbrev pub invariant-loop-middle : goal.invariant-loop-middle
invariant-loop-middle l = l.texts.items ≡ around l.front (map (λ middle. middle.now) (take l.middle-index l.middles)) l.end
