use Rattle.std.proofs.Common.{◌≡◌, ◌++◌, map, take}
use Rattle.std.specs.Prelude.{filter}
use Rattle.sv_findings.specs.RoleFindings.{is_unheld}
use Rattle.sv_findings.specs.declared.finding.Finding.TheVariants as finding
use Rattle.sv_findings.proofs.role_findings.push_unheld_among.Given as goal

abbrev pub invariant-loop-name : goal.invariant-loop-name
invariant-loop-name l = l.findings.items ≡ l.initial.findings.items ++ map finding.UnheldRole (filter (is_unheld l.declared l.held) (map (λ name. name.now) (take l.name-index l.named)))
