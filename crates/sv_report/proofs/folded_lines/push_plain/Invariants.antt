use Rattle.std.proofs.Common.{◌≡◌, ◌++◌, take}
use Rattle.std.specs.String.{string_bytes}
use Rattle.sv_report.specs.Folded.{bytes_of}
use Rattle.sv_report.proofs.folded_lines.push_plain.Given as goal

abbrev pub invariant-loop-character : goal.invariant-loop-character
invariant-loop-character l = string_bytes l.text ≡ string_bytes l.fn.text ++ bytes_of (take l.character-index l.characters)
