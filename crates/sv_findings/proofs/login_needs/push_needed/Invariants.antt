use Rattle.std.proofs.Common.{◌≡◌, ◌++◌, map, take}
use Rattle.sv_findings.specs.declared.finding.Finding.TheVariants as finding
use Rattle.sv_findings.proofs.login_needs.push_needed.Given as goal

abbrev pub invariant-loop-path : goal.invariant-loop-path
invariant-loop-path l = l.findings.items ≡ l.initial.findings.items ++ map finding.LoginNeeds (map (λ path. path.now) (take l.path-index l.path-items))
