use Rattle.std.proofs.Common.{◌≡◌, ◌++◌, take}
use Rattle.sv_explanation.proofs.servlets.push_patterns.Given as goal

abbrev pub invariant-loop-pattern : goal.invariant-loop-pattern
invariant-loop-pattern l = l.patterns.items ≡ l.initial.patterns.items ++ take l.pattern-index l.listed
