use Rattle.std.proofs.Common.{◌≡◌, take}
use Rattle.sv_report.specs.Folded.{last_space}
use Rattle.sv_report.proofs.folded_lines.last_space.Given as goal

abbrev pub invariant-loop-character : goal.invariant-loop-character
invariant-loop-character l = (l.place ≡ l.character-index) × (l.last ≡ last_space (take l.character-index l.characters))
