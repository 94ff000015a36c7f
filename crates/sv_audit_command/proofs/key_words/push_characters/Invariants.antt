use Rattle.std.proofs.Common.{◌≡◌, ◌++◌, take}
use Rattle.std.specs.List.{flat_map}
use Rattle.std.specs.String.{string_bytes}
use Rattle.sv_audit_command.specs.KeyWords.{quoted_character}
use Rattle.sv_audit_command.proofs.key_words.push_characters.Given as goal

abbrev pub invariant-loop-character : goal.invariant-loop-character
invariant-loop-character l = string_bytes l.key ≡ string_bytes l.fn.key ++ flat_map quoted_character (take l.character-index l.characters)
