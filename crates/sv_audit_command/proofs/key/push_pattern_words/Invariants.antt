use Rattle.std.proofs.Common.{◌≡◌, ◌++◌, map, take}
use Rattle.sv_audit_command.specs.KeyWords.{word}
use Rattle.sv_audit_command.proofs.key.push_pattern_words.Given as goal

abbrev pub invariant-loop-pattern : goal.invariant-loop-pattern
invariant-loop-pattern l = l.words.items ≡ l.initial.words.items ++ map word (take l.pattern-index l.patterns)
