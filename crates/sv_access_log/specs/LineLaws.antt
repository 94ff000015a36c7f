-- The law that no client can forge a line of an access log, or a part of one.
use Rattle.std.specs.Prelude.{◌≡◌, ℕ, ◌==◌, true, false, List, ◌++◌, codes, count_by}
use Rattle.std.specs.List.{list_all, list_any}
use Rattle.std.specs.Str.{byte}
use Rattle.sv_access_log.specs.Combined.{combined_line}
use Rattle.sv_access_log.specs.Escaping.{is_printable}
use Rattle.sv_access_log.specs.Json.{json_line}
use Rattle.sv_access_log.specs.declared.circumstances.Circumstances.{Circumstances}
use Rattle.sv_run.specs.declared.access.Access.{Access}

-- A line feed at its end, and no other.
abbrev pub IsLine : List ℕ → Type 0
IsLine line = (content : List ℕ) × (line ≡ content ++ codes "\n") × (list_any (λ b. b == byte "\n") content ≡ false)

-- Printable ASCII, and a line feed at its end.
abbrev pub IsPrintableLine : List ℕ → Type 0
IsPrintableLine line = (content : List ℕ) × (line ≡ content ++ codes "\n") × (list_all is_printable content ≡ true)

abbrev pub quotation_marks : List ℕ → ℕ
quotation_marks text = count_by (λ b. b == byte "\"") text

-- A line in the combined format has three parts in quotation marks, and no other quotation mark.
abbrev pub CombinedLinesAreWhole : Type 0
CombinedLinesAreWhole =
    (access : Access) (around : Circumstances) → IsPrintableLine (combined_line access around) × (quotation_marks (combined_line access around) ≡ 6)

abbrev pub JsonLinesAreWhole : Type 0
JsonLinesAreWhole = (access : Access) (around : Circumstances) → IsLine (json_line access around)
