use Rattle.std.proofs.Common.{◌≡◌, string_bytes, take}
use Rattle.std.specs.List.{flat_map}
use Rattle.sv_program.specs.Shown.{character_text}
use Rattle.sv_program.proofs.toml_value.escaped.Given as goal

abbrev pub invariant-loop-character : goal.invariant-loop-character
invariant-loop-character l = string_bytes l.text ≡ flat_map character_text (take l.character-index l.characters)
