-- The lines of a script.
use Rattle.std.specs.Prelude.{ℕ, Bool, true, ◌==◌, List, [], ◌∷◌, codes, Option, Some, None, Result, Ok, if◌then◌else◌}
use Rattle.std.specs.Option.{option_map, option_and_then, ok_or}
use Rattle.std.specs.Str.{byte, bytes_eq}
use Rattle.sv_script.specs.Editing.{appending, withdrawing}
use Rattle.sv_script.specs.Escape.{unescaped}
use Rattle.sv_script.specs.Fields.{at_blank, number}
use Rattle.sv_script.specs.declared.line.LineFault.{LineFault}
use Rattle.sv_script.specs.declared.line.LineFault.TheVariants.{Unreadable, NoMemory}
use Rattle.sv_script.specs.declared.line.ScriptLine.{ScriptLine}
use Rattle.sv_script.specs.declared.line.ScriptLine.TheVariants.{Nothing, Open, Send, End, Lost, Tick}

-- an empty line, or a comment
abbrev pub is_skipped : List ℕ → Bool
is_skipped [] = true
is_skipped (b ∷ text) = b == byte "#"

-- a piece for a connection: its number, a blank, and the text of its bytes
abbrev pub piece : List ℕ → Option ScriptLine
piece rest = option_and_then (λ cut. option_and_then (λ connection. option_map (Send connection) (unescaped cut.1)) (number cut.0)) (at_blank rest)

-- the request of a word with the rest of the line after its blank
abbrev pub asked_by : List ℕ → List ℕ → Option ScriptLine
asked_by word rest =
    if bytes_eq word (codes "open") then option_map Open (number rest)
    else if bytes_eq word (codes "send") then piece rest
    else if bytes_eq word (codes "end") then option_map End (number rest)
    else if bytes_eq word (codes "lost") then option_map Lost (number rest)
    else if bytes_eq word (codes "tick") then option_map Tick (number rest)
    else if bytes_eq word (codes "append") then appending rest
    else if bytes_eq word (codes "withdraw") then withdrawing rest
    else None

-- the request of a line that is not skipped
abbrev pub spoken : List ℕ → Option ScriptLine
spoken line = option_and_then (λ cut. asked_by cut.0 cut.1) (at_blank line)

-- the request of a line
abbrev pub asked : List ℕ → Result ScriptLine LineFault
asked line = if is_skipped line then Ok Nothing else ok_or (spoken line) Unreadable

-- the fault, apart from running out of memory
abbrev pub line_fault : LineFault → Option LineFault
line_fault Unreadable = Some Unreadable
line_fault NoMemory = None
