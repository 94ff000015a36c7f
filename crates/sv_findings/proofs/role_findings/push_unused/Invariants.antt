use Rattle.std.proofs.Common.{◌≡◌, ◌++◌, map, take}
use Rattle.sv_findings.specs.declared.finding.Finding.TheVariants as finding
use Rattle.sv_findings.proofs.role_findings.push_unused.Given as goal

abbrev pub invariant-loop-role : goal.invariant-loop-role
invariant-loop-role l = l.findings.items ≡ l.initial.findings.items ++ map finding.UnusedRole (map (λ role. role.now) (take l.role-index l.role-items))
