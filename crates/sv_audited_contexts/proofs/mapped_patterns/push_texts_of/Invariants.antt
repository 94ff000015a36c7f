use Rattle.std.proofs.Common.{◌≡◌, ◌++◌, take}
use Rattle.sv_audited_contexts.proofs.mapped_patterns.push_texts_of.Given as goal

abbrev pub invariant-loop-pattern : goal.invariant-loop-pattern
invariant-loop-pattern l = l.texts.items ≡ l.initial.texts.items ++ take l.pattern-index l.patterns
