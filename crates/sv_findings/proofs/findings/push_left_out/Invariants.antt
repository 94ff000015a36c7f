use Rattle.std.proofs.Common.{◌≡◌, ◌++◌, map, take}
use Rattle.std.specs.Prelude.{filter}
use Rattle.sv_findings.specs.Uncovered.{is_left_out}
use Rattle.sv_findings.specs.declared.finding.Finding.TheVariants as finding
use Rattle.sv_findings.proofs.findings.push_left_out.Given as goal

abbrev pub invariant-loop-group : goal.invariant-loop-group
invariant-loop-group l = l.findings.items ≡ l.initial.findings.items ++ map (λ group. finding.Uncovered l.pattern group.methods) (filter is_left_out (take l.group-index l.groups))
