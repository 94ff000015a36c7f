-- The laws of replays.
use Rattle.std.specs.Prelude.{◌≡◌, ◌⊎◌, ℕ, Bool, false, List, [], ◌∷◌, ◌++◌, flat_map, Err}
use Rattle.std.specs.List.{AllByRecursion}
use Rattle.sv_script.specs.Asked.{reactions_text}
use Rattle.sv_script.specs.Lines.{AreNext, lines_of}
use Rattle.sv_script.specs.Replay.{FailsAtLast}
use Rattle.sv_run.specs.declared.happening.Reaction.{Reaction}
use Rattle.sv_streams.specs.Calls.{Making, WritesAll}
use Rattle.sv_streams.specs.Lines.{has_line_feed}
use Rattle.sv_streams.specs.declared.stream.WriteFailed.{WriteFailed}

abbrev pub with_line_feed : List ℕ → List ℕ
with_line_feed line = line ++ 10 ∷ []

abbrev pub HasNoLineFeed : List ℕ → Type 0
HasNoLineFeed line = has_line_feed line ≡ false

-- the lines of a text, each followed by a line feed, are the text, or the text with a line feed at its end
abbrev pub LinesAreTheText : Type 0
LinesAreTheText =
    (text : List ℕ) → (flat_map with_line_feed (lines_of text) ≡ text) ⊎ (flat_map with_line_feed (lines_of text) ≡ with_line_feed text)

-- no line contains a line feed
abbrev pub LinesAreApart : Type 0
LinesAreApart = (text : List ℕ) → AllByRecursion HasNoLineFeed (lines_of text)

-- lines that begin a text are the first of its lines, and the lines of the rest follow
abbrev pub NextLinesAreFirst : Type 0
NextLinesAreFirst =
    (ended : Bool) (lines : List (List ℕ)) (text rest : List ℕ) → AreNext ended lines text rest → lines_of text ≡ lines ++ lines_of rest

-- if a write failed, the output is the text of all events up to that point
abbrev pub AFailedWriteCutsTheText : {O : Type 0} → Making O → Type 0
AFailedWriteCutsTheText {O} takes =
    (reactions : List Reaction) (output after : O) → FailsAtLast takes reactions output after
    → (failed : WriteFailed) × WritesAll takes (reactions_text 1 reactions) output (Err failed) after
