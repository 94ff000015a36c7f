use Rattle.std.proofs.Common.{◌≡◌, map, take}
use Rattle.std.specs.Prelude.{filter}
use Rattle.sv_policy.specs.Patterns.{different}
use Rattle.sv_findings.specs.RoleFindings.{is_unknown}
use Rattle.sv_findings.proofs.role_findings.unknown_of.Given as goal

abbrev pub invariant-loop-name : goal.invariant-loop-name
invariant-loop-name l = map (λ name. name.now) l.kept.items ≡ different (filter (is_unknown l.declared) (take l.name-index l.names))
