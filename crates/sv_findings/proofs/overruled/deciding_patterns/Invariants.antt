use Rattle.std.proofs.Common.{◌≡◌, map, not, take}
use Rattle.std.specs.Prelude.{filter}
use Rattle.sv_findings.specs.Dead.{decides_nothing}
use Rattle.sv_findings.proofs.overruled.deciding_patterns.Given as goal

abbrev pub invariant-loop-pattern : goal.invariant-loop-pattern
invariant-loop-pattern l = map (λ pattern. pattern.now) l.deciding.items ≡ filter (λ pattern. not (decides_nothing l.listed pattern)) (map (λ pattern. pattern.now) (take l.pattern-index l.pattern-items))
