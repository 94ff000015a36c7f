use Rattle.std.proofs.Common.{◌≡◌, take}
use Rattle.sv_audit.specs.Representatives as spec
use Rattle.sv_audit.proofs.representatives.longest.Given as goal

abbrev pub invariant-loop-text : goal.invariant-loop-text
invariant-loop-text l = l.most ≡ spec.longest (take l.text-index l.texts)
