use Rattle.std.proofs.Common.{◌≡◌, map, take}
use Rattle.std.specs.Prelude.{filter}
use Rattle.sv_policy.specs.Patterns.{different}
use Rattle.sv_findings.specs.Dead.{is_escaped}
use Rattle.sv_findings.proofs.dead.escaped_of.Given as goal

abbrev pub invariant-loop-pattern : goal.invariant-loop-pattern
invariant-loop-pattern l = map (λ pattern. pattern.now) l.kept.items ≡ different (filter is_escaped (map (λ pattern. pattern.now) (take l.pattern-index l.patterns)))
