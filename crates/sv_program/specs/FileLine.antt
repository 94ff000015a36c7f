-- The lines of a file on which a value begins: those after first lines that are TOML by themselves and lack the value, up
-- to the next first lines that are TOML, if these have it.
use Rattle.std.specs.Prelude.{◌≡◌, ℕ, Bool, false, ◌==◌, ◌+◌, ◌<◌, ◌≤◌, drop, List, [], ◌∷◌, length, take, slice_index_or, Option, Some, None, IfSome, is_some, if◌then◌else◌}
use Rattle.std.specs.Option.{option_and_then}
use Rattle.std.specs.Str.{byte, is_utf8}
use Rattle.toml.specs.Data.{Members}
use Rattle.toml.specs.Parse.{parse_document}
use Rattle.sv_descriptor.specs.declared.fault.ValueStep.{ValueStep}
use Rattle.sv_program.specs.Offending.{value_in}
use Rattle.sv_program.specs.Place.{ends_line}
use Rattle.sv_program.specs.declared.file_line.Found.{Found}
use Rattle.sv_program.specs.declared.file_line.Found.TheVariants.{Nothing, Lack, Has}
use Rattle.sv_program.specs.declared.file_line.Presence.{Presence}
use Rattle.sv_program.specs.declared.file_line.Presence.TheVariants.{NotToml, Lacking, Present}
use Rattle.sv_program.specs.declared.file_line.Region.{Region}
use Rattle.sv_program.specs.declared.limits.TheConstants.{MAX_LOCATED_BYTES}

-- the bytes as a text, if they are UTF-8
abbrev pub text_of : List ℕ → Option (List ℕ)
text_of bytes = if is_utf8 bytes then Some bytes else None

-- the table of these bytes, if they are a TOML document
abbrev pub table_of : List ℕ → Option Members
table_of bytes = option_and_then parse_document (text_of bytes)

abbrev pub presence_in : List ValueStep → Option Members → Presence
presence_in steps None = NotToml
presence_in steps (Some table) = if is_some (value_in steps table) then Present else Lacking

-- whether these bytes have the value after these steps
abbrev pub presence : List ValueStep → List ℕ → Presence
presence steps bytes = presence_in steps (table_of bytes)

abbrev pub begins_with_bracket : List ℕ → Bool
begins_with_bracket [] = false
begins_with_bracket (first ∷ rest) = first == byte "["

-- the number of bytes up to each end of a line, after this number of bytes, and up to the end
abbrev pub ends_from : ℕ → List ℕ → List ℕ
ends_from at [] = at ∷ []
ends_from at (byte ∷ rest) = if ends_line byte then (at + 1) ∷ ends_from (at + 1) rest else ends_from (at + 1) rest

-- the lengths of the first lines of a text: of none, of one, and so on
abbrev pub line_ends : List ℕ → List ℕ
line_ends text = 0 ∷ ends_from 0 text

-- whether the first lines, up to this of the ends, have the value
abbrev pub presence_to : List ValueStep → List ℕ → List ℕ → ℕ → Presence
presence_to steps text ends number = presence steps (take (slice_index_or ends number 0) text)

-- the first `number` lines lack the value, and the next first lines that are TOML have it: the first `has` lines
pub record BeginsBetween (state : ℕ → Presence) (last : ℕ) (number : ℕ) (has : ℕ) : Type 0 where
  pub lacking : state number ≡ Lacking
  pub after : number < has
  pub within : has ≤ last
  pub present : state has ≡ Present
  pub skipped : (between : ℕ) → number < between → between < has → state between ≡ NotToml

-- how many lines are before each of these ends, if a bracket follows, as at a header
abbrev pub headers_from : ℕ → List ℕ → List ℕ → List ℕ
headers_from number text [] = []
headers_from number text (end ∷ ends) = if begins_with_bracket (drop end text) then number ∷ headers_from (number + 1) text ends else headers_from (number + 1) text ends

-- how many lines a text has
abbrev pub line_count : List ℕ → ℕ
line_count text = length (ends_from 0 text)

-- the lines between which the value begins, by the number of the first of them, from 1, and by the places of their ends
abbrev pub IsRegionBetween : List ℕ → List ValueStep → Region → ℕ → ℕ → Type 0
IsRegionBetween text steps region number has =
    BeginsBetween (presence_to steps text (line_ends text)) (line_count text) number has
    × (region ≡ record { line = number + 1; start = slice_index_or (line_ends text) number 0; end = slice_index_or (line_ends text) has 0 })

-- the lines on which the value begins; there are none if the text does not have the value, and may be none if it is long
abbrev pub IsRegion : List ℕ → List ValueStep → Option Region → Type 0
IsRegion text steps None =
    let state = presence_to steps text (line_ends text) in
    length text ≤ MAX_LOCATED_BYTES → state 0 ≡ Lacking → state (line_count text) ≡ Present → ⊥
IsRegion text steps (Some region) = (number : ℕ) × (has : ℕ) × IsRegionBetween text steps region number has

-- the lines end within the text
abbrev pub EndsWithin : List ℕ → Option Region → Type 0
EndsWithin text region = IfSome region (λ lines. lines.end ≤ length text)

-- ---- the search for it

-- no first lines between these numbers, nor up to the last, are TOML by themselves
abbrev pub AreOpen : (ℕ → Presence) → ℕ → ℕ → Type 0
AreOpen state after last = (number : ℕ) → after < number → number ≤ last → state number ≡ NotToml

-- the value begins after `low` lines or later, and before `high`
pub record IsNarrowed (state : ℕ → Presence) (low bound high : ℕ) : Type 0 where
  pub rising : low ≤ bound
  pub apart : bound < high
  pub lacking : state low ≡ Lacking
  pub present : state high ≡ Present
  pub skipped : AreOpen state low bound

-- the most first lines, more than `bound` and at most `middle`, that are TOML by themselves
abbrev pub IsLastToml : (ℕ → Presence) → ℕ → ℕ → Found → Type 0
IsLastToml state bound middle Nothing = AreOpen state bound middle
IsLastToml state bound middle (Lack number) = (bound < number) × (number ≤ middle) × (state number ≡ Lacking) × AreOpen state number middle
IsLastToml state bound middle (Has number) = (bound < number) × (number ≤ middle) × (state number ≡ Present) × AreOpen state number middle
