use Rattle.std.proofs.Common.{◌≡◌, map, take}
use Rattle.std.specs.List.{flat_map}
use Rattle.sv_audit_command.specs.KeyWords.{word}
use Rattle.sv_audit_command.proofs.key.pattern_words.Given as goal

abbrev pub invariant-loop-collection : goal.invariant-loop-collection
invariant-loop-collection l = l.words.items ≡ flat_map (λ collection. map word collection.patterns) (take l.collection-index l.collection-items)
