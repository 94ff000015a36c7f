use Rattle.std.proofs.Common.{◌≡◌, map, take}
use Rattle.std.specs.List.{flat_map}
use Rattle.sv_audit.specs.Access.{roles_meant}
use Rattle.sv_findings.proofs.role_findings.named_roles.Given as goal

abbrev pub invariant-loop-constraint : goal.invariant-loop-constraint
invariant-loop-constraint l = map (λ role. role.now) l.roles.items ≡ flat_map (λ constraint. roles_meant l.declared constraint.auth) (take l.constraint-index l.constraints)
