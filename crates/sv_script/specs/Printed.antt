-- The texts that a replay prints: lines, each with a line feed at its end.
use Rattle.std.specs.Prelude.{ℕ, Bool, List, [], ◌∷◌, ◌++◌, codes, flat_map, if◌then◌else◌, Option, None, Some, Result, Ok, Err}
use Rattle.std.specs.Fmt.{decimal}
use Rattle.sv_journal.specs.Entry.{entry_text}
use Rattle.sv_journal.specs.declared.entry.Entry.{Entry}
use Rattle.sv_policy.specs.declared.edit_fault.EditFault.{EditFault}
use Rattle.sv_policy.specs.declared.edit_fault.EditFault.TheVariants.{NoSuch, TooMany, NumberSpent, NoMemory}
use Rattle.sv_script.specs.Escape.{escaped}

abbrev pub line_of : List ℕ → List ℕ
line_of text = text ++ codes "\n"

abbrev pub entry_line : Entry → List ℕ
entry_line entry = line_of (entry_text entry)

-- the entries, a line for each
abbrev pub entry_lines : List Entry → List ℕ
entry_lines entries = flat_map entry_line entries

-- the bytes that were sent, if any
abbrev pub sends_lines : List ℕ → List ℕ
sends_lines [] = []
sends_lines (b ∷ bytes) = line_of (codes "sends " ++ escaped (b ∷ bytes))

-- whether the connection was closed
abbrev pub closes_lines : Bool → List ℕ
closes_lines closes = if closes then line_of (codes "closes") else []

abbrev pub edit_code : EditFault → ℕ
edit_code NoSuch = 1
edit_code TooMany = 2
edit_code NumberSpent = 3
edit_code NoMemory = 4

-- the answer to an edit
abbrev pub edited_lines : Option (Result ℕ EditFault) → List ℕ
edited_lines None = []
edited_lines (Some (Ok number)) = line_of (codes "edited " ++ decimal number)
edited_lines (Some (Err fault)) = line_of (codes "edit refused " ++ decimal (edit_code fault))

-- an accepted event by its number, counted from 1: its entries, the bytes that it sent, whether it closed the
-- connection, and the answer to an edit
abbrev pub event_text : ℕ → List Entry → List ℕ → Bool → Option (Result ℕ EditFault) → List ℕ
event_text number entries sends closes edited =
    line_of (codes "event " ++ decimal number) ++ entry_lines entries ++ sends_lines sends ++ closes_lines closes ++ edited_lines edited

-- the start, with its entries
abbrev pub start_text : List Entry → List ℕ
start_text entries = line_of (codes "start") ++ entry_lines entries

-- the shutdown, with its entries
abbrev pub shutdown_text : List Entry → List ℕ
shutdown_text entries = line_of (codes "shutdown") ++ entry_lines entries
