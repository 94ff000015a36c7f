-- The lines of a text.
use Rattle.std.specs.Prelude.{◌≡◌, ◌⊎◌, ℕ, ◌==◌, Bool, true, List, [], ◌∷◌, if◌then◌else◌}
use Rattle.sv_streams.specs.Lines.{IsFirstLine, IsLastLine}

-- the lines, with a byte put before the first
abbrev pub with_byte : ℕ → List (List ℕ) → List (List ℕ)
with_byte b [] = (b ∷ []) ∷ []
with_byte b (line ∷ lines) = (b ∷ line) ∷ lines

-- the lines of a text, without their line feeds; the text after the last line feed is a line if it is not empty
abbrev pub lines_of : List ℕ → List (List ℕ)
lines_of [] = []
lines_of (b ∷ text) = if b == 10 then [] ∷ lines_of text else with_byte b (lines_of text)

-- the line begins the text; at the end of the text it may lack its line feed
abbrev pub IsNext : Bool → List ℕ → List ℕ → List ℕ → Type 0
IsNext ended line text behind = IsFirstLine line text behind ⊎ (IsLastLine line text × (behind ≡ []) × (ended ≡ true))

-- the lines begin the text, before the rest
abbrev pub AreNext : Bool → List (List ℕ) → List ℕ → List ℕ → Type 0
AreNext ended [] text rest = rest ≡ text
AreNext ended (line ∷ lines) text rest = (behind : List ℕ) × IsNext ended line text behind × AreNext ended lines behind rest
