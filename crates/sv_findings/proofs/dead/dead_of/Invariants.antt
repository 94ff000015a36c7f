use Rattle.std.proofs.Common.{◌≡◌, map, take}
use Rattle.std.specs.Prelude.{filter}
use Rattle.sv_policy.specs.Patterns.{different}
use Rattle.sv_findings.specs.Dead.{decides_nothing}
use Rattle.sv_findings.proofs.dead.dead_of.Given as goal

abbrev pub invariant-loop-pattern : goal.invariant-loop-pattern
invariant-loop-pattern l = map (λ pattern. pattern.now) l.kept.items ≡ different (filter (decides_nothing l.listed) (map (λ pattern. pattern.now) (take l.pattern-index l.patterns)))
