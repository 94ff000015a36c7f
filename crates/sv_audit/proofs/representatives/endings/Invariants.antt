use Rattle.std.proofs.Common.{◌≡◌, take}
use Rattle.sv_audit.specs.Representatives as spec
use Rattle.sv_audit.proofs.representatives.endings.Given as goal

abbrev pub invariant-loop-pattern : goal.invariant-loop-pattern
invariant-loop-pattern l = l.texts.items ≡ spec.endings (take l.pattern-index l.patterns)
