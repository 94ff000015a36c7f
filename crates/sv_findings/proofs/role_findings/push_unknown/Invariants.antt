use Rattle.std.proofs.Common.{◌≡◌, ◌++◌, take}
use Rattle.std.specs.List.{flat_map}
use Rattle.sv_findings.specs.RoleFindings.{unknown_roles}
use Rattle.sv_findings.proofs.role_findings.push_unknown.Given as goal

abbrev pub invariant-loop-constraint : goal.invariant-loop-constraint
invariant-loop-constraint l = l.findings.items ≡ l.initial.findings.items ++ flat_map (λ constraint. unknown_roles l.declared constraint.number constraint.auth) (take l.constraint-index l.constraints)
