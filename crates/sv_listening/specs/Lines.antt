-- The journal lines of an event, each with a line feed only at its end.
use Rattle.std.specs.Prelude.{ℕ, List, [], ◌++◌, codes, flat_map, ◌==◌, Option, None, Some, if◌then◌else◌}
use Rattle.std.specs.Fmt.{decimal}
use Rattle.sv_journal.specs.Entry.{entry_text}
use Rattle.sv_journal.specs.declared.entry.Entry.{Entry}
use Rattle.sv_script.specs.Escape.{escaped}

abbrev pub connection_text : Option ℕ → List ℕ
connection_text (Some number) = decimal number
connection_text None = codes "-"

-- The time of an event, and its connection.
abbrev pub place_text : ℕ → Option ℕ → List ℕ
place_text moment connection = decimal moment ++ codes " " ++ connection_text connection ++ codes " "

-- An entry, escaped so that no byte ends a line.
abbrev pub shown_entry : Entry → List ℕ
shown_entry entry = escaped (entry_text entry)

abbrev pub event_line : ℕ → Option ℕ → Entry → List ℕ
event_line moment connection entry = place_text moment connection ++ shown_entry entry ++ codes "\n"

-- A line for each entry.
abbrev pub event_lines : ℕ → Option ℕ → List Entry → List ℕ
event_lines moment connection entries = flat_map (event_line moment connection) entries

-- The number of events with lost entries, if there are any, after the end of a line that may have been cut.
abbrev pub lost_lines : ℕ → ℕ → List ℕ
lost_lines moment lost =
    if lost == 0 then [] else codes "\n" ++ decimal moment ++ codes " - lost " ++ decimal lost ++ codes "\n"

-- The text that is written for an event.
abbrev pub recorded_text : ℕ → ℕ → Option ℕ → List Entry → List ℕ
recorded_text lost moment connection entries = lost_lines moment lost ++ event_lines moment connection entries
