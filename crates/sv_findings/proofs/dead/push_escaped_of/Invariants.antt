use Rattle.std.proofs.Common.{◌≡◌, ◌++◌, map, take}
use Rattle.sv_findings.specs.declared.finding.Finding.TheVariants as finding
use Rattle.sv_findings.proofs.dead.push_escaped_of.Given as goal

abbrev pub invariant-loop-pattern : goal.invariant-loop-pattern
invariant-loop-pattern l = l.findings.items ≡ l.initial.findings.items ++ map (finding.Escaped l.number) (map (λ pattern. pattern.now) (take l.pattern-index l.pattern-items))
