use Rattle.std.proofs.Common.{◌≡◌, ◌++◌, codes, take}
use Rattle.std.specs.Prelude.{filter}
use Rattle.std.specs.List.{flat_map}
use Rattle.sv_audit.specs.Callers.{has_method}
use Rattle.sv_findings.specs.Heads.{straying}
use Rattle.sv_findings.proofs.heads.push_gets.Given as goal

abbrev pub invariant-loop-get : goal.invariant-loop-get
invariant-loop-get l = l.findings.items ≡ l.initial.findings.items ++ flat_map (λ get. straying l.has_login l.pattern l.groups get.cell.access) (filter (has_method (codes "GET")) (take l.get-index l.groups))
