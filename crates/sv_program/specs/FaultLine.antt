-- The parts of a fault's line.
use Rattle.std.specs.Prelude.{ℕ, List, [], ◌++◌, codes}
use Rattle.std.specs.Fmt.{decimal}
use Rattle.sv_program.specs.declared.command_fault.Line.{Line}
use Rattle.sv_program.specs.declared.command_fault.LineEnd.{LineEnd}
use Rattle.sv_program.specs.declared.command_fault.LineEnd.TheVariants as end
use Rattle.sv_program.specs.declared.command_fault.Shown.{Shown}

-- `CODE KEY`
abbrev pub shown_text : Shown → List ℕ
shown_text shown = decimal shown.code ++ codes " " ++ shown.key.now

abbrev pub end_text : LineEnd → List ℕ
end_text end.Nothing = []
end_text (end.Number number) = codes " " ++ decimal number
end_text (end.Shown shown) = codes " " ++ shown_text shown

abbrev pub line_text : Line → List ℕ
line_text line = line.front.now ++ line.place.now ++ end_text line.end
