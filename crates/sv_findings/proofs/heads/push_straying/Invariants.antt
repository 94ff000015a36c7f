use Rattle.std.proofs.Common.{◌≡◌, ◌++◌, map, take}
use Rattle.std.specs.Prelude.{filter}
use Rattle.sv_findings.specs.Heads.{strays}
use Rattle.sv_findings.specs.declared.finding.Finding.TheVariants as finding
use Rattle.sv_findings.proofs.heads.push_straying.Given as goal

abbrev pub invariant-loop-head : goal.invariant-loop-head
invariant-loop-head l = l.findings.items ≡ l.initial.findings.items ++ map (λ head. finding.HeadDiffers l.pattern l.get head.cell.access) (filter (strays l.has_login l.get) (take l.head-index l.groups))
