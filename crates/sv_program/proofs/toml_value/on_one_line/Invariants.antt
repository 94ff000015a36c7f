use Rattle.std.proofs.Common.{◌≡◌, string_bytes, take}
use Rattle.std.specs.List.{flat_map}
use Rattle.sv_program.specs.Shown.{line_character}
use Rattle.sv_program.proofs.toml_value.on_one_line.Given as goal

abbrev pub invariant-loop-character : goal.invariant-loop-character
invariant-loop-character l = string_bytes l.text ≡ flat_map line_character (take l.character-index l.characters)
