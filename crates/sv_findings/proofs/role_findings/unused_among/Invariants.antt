use Rattle.std.proofs.Common.{◌≡◌, map, take}
use Rattle.std.specs.Prelude.{filter}
use Rattle.sv_policy.specs.Patterns.{different}
use Rattle.sv_findings.specs.RoleFindings.{is_unused}
use Rattle.sv_findings.proofs.role_findings.unused_among.Given as goal

abbrev pub invariant-loop-role : goal.invariant-loop-role
invariant-loop-role l = map (λ role. role.now) l.unused.items ≡ different (filter (is_unused (map (λ name. name.now) l.named)) (take l.role-index l.declared))
