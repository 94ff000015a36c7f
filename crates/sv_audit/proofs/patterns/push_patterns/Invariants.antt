use Rattle.std.proofs.Common.{◌≡◌, ◌++◌, map, take}
use Rattle.sv_audit.proofs.patterns.push_patterns.Given as goal

abbrev pub invariant-loop-pattern : goal.invariant-loop-pattern
invariant-loop-pattern l = map (λ text. text.now) l.texts.items ≡ map (λ text. text.now) l.initial.texts.items ++ take l.pattern-index l.patterns
