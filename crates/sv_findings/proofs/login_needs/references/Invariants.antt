use Rattle.std.proofs.Common.{◌≡◌, ◌++◌, [], drop, map}
use Rattle.sv_findings.specs.LoginNeeds.{references_after}
use Rattle.sv_findings.proofs.login_needs.references.Given as goal

abbrev pub invariant-loop-part : goal.invariant-loop-part
invariant-loop-part l = map (λ part. part.now) l.found.items ++ references_after l.before (map (λ part. part.now) (drop l.part-index l.parts)) ≡ references_after [] (map (λ part. part.now) l.parts)
