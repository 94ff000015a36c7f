use Rattle.std.proofs.Common.{◌≡◌, map, take}
use Rattle.std.specs.Prelude.{filter}
use Rattle.sv_policy.specs.Patterns.{different}
use Rattle.sv_findings.specs.Unreached.{is_unreached}
use Rattle.sv_findings.proofs.unreached.unreached_of.Given as goal

abbrev pub invariant-loop-pattern : goal.invariant-loop-pattern
invariant-loop-pattern l = map (λ pattern. pattern.now) l.kept.items ≡ different (filter (is_unreached l.reaches.0 l.reaches.1) (map (λ pattern. pattern.now) (take l.pattern-index l.patterns)))
