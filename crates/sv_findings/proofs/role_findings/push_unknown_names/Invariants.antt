use Rattle.std.proofs.Common.{◌≡◌, ◌++◌, map, take}
use Rattle.sv_findings.specs.declared.finding.Finding.TheVariants as finding
use Rattle.sv_findings.proofs.role_findings.push_unknown_names.Given as goal

abbrev pub invariant-loop-name : goal.invariant-loop-name
invariant-loop-name l = l.findings.items ≡ l.initial.findings.items ++ map (finding.UnknownRole l.number) (map (λ name. name.now) (take l.name-index l.name-items))
