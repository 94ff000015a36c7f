use Rattle.std.proofs.Common.{◌≡◌, drop}
use Rattle.sv_web.specs.Methods.{asked_for}
use Rattle.sv_web.proofs.methods.asked_for.Given as goal

abbrev pub invariant-loop-verb : goal.invariant-loop-verb
invariant-loop-verb l = asked_for l.method (drop l.verb-index l.allowed) ≡ asked_for l.method l.allowed
