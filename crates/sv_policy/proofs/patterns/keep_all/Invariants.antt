use Rattle.std.proofs.Common.{◌≡◌, map, take}
use Rattle.std.specs.Prelude.{fold}
use Rattle.sv_policy.specs.Patterns.{kept_once}
use Rattle.sv_policy.proofs.patterns.keep_all.Given as goal

abbrev pub invariant-loop-pattern : goal.invariant-loop-pattern
invariant-loop-pattern l = map (λ pattern. pattern.now) l.kept.items ≡ fold kept_once (map (λ pattern. pattern.now) l.initial.kept.items) (take l.pattern-index l.patterns)
