-- The lines of a source.
use Rattle.std.specs.Prelude.{◌≡◌, ◌⊎◌, ℕ, ◌+◌, ◌*◌, ◌<◌, ◌≤◌, ◌==◌, ◌||◌, Bool, true, false, List, [], ◌∷◌, ◌++◌, length, Option, Some, None, Result, Ok, Err}
use Rattle.std.specs.List.{list_any}
use Rattle.sv_streams.specs.Calls.{AreMade, Call, Making, failures, given, meets_end, reads, taken}
use Rattle.sv_streams.specs.declared.lines_fault.LinesFault.{LinesFault}
use Rattle.sv_streams.specs.declared.lines_fault.LinesFault.TheVariants.{ReadFailed, TooManyReads, NoMemory}

-- The greatest number of reads.
abbrev pub max_reads : ℕ
max_reads = 1000000

-- The greatest number of bytes of one read.
abbrev pub piece_bytes : ℕ
piece_bytes = 8192

-- The state of a line reader: the incomplete line, the bytes read after it and not yet searched, the number of reads,
-- and whether a read has met the end.
pub record LinesState : Type 0 where
  pub line : List ℕ
  pub ahead : List ℕ
  pub reads : ℕ
  pub ended : Bool

abbrev pub new_lines : LinesState
new_lines = record { line = []; ahead = []; reads = 0; ended = false }

-- The bytes that were read and not yet returned in a line.
abbrev pub unread : LinesState → List ℕ
unread state = state.line ++ state.ahead

abbrev pub has_line_feed : List ℕ → Bool
has_line_feed text = list_any (λ b. b == 10) text

-- The text is the line, its line feed, and the rest.
abbrev pub IsFirstLine : List ℕ → List ℕ → List ℕ → Type 0
IsFirstLine line text rest = (has_line_feed line ≡ false) × (text ≡ line ++ 10 ∷ rest)

-- The text is the line, which has no line feed and is not empty.
abbrev pub IsLastLine : List ℕ → List ℕ → Type 0
IsLastLine line text = (has_line_feed line ≡ false) × (text ≡ line) × (0 < length line)

-- The result for a text that was read and not yet returned, and the bytes that stay unread.
abbrev pub GivesLine : List ℕ → Result (Option (List ℕ)) LinesFault → LinesState → Type 0
GivesLine text (Ok (Some line)) after =
    IsFirstLine line text (unread after) ⊎ (IsLastLine line text × (unread after ≡ []) × (after.ended ≡ true))
GivesLine text (Ok None) after = (text ≡ []) × (unread after ≡ []) × (after.ended ≡ true)
GivesLine text (Err ReadFailed) after = (unread after ≡ text) × (has_line_feed text ≡ false)
GivesLine text (Err TooManyReads) after = (unread after ≡ text) × (has_line_feed text ≡ false) × (max_reads ≤ after.reads)
GivesLine text (Err NoMemory) after = unread after ≡ text

-- The number of failed calls: the failure of a read is reported.
abbrev pub failed : {A : Type 0} → Result A LinesFault → ℕ
failed (Err ReadFailed) = 1
failed other = 0

-- All calls are reads. This many failed, none follows the end, and the limits of their number and of their bytes are
-- kept.
pub record AreReads (before : LinesState) (calls : List Call) (failures_made : ℕ) (after : LinesState) : Type 0 where
  pub reads_alone : taken calls ≡ []
  pub failed : failures calls ≡ failures_made
  pub counted : after.reads ≡ before.reads + reads calls
  pub within : before.reads ≤ max_reads → after.reads ≤ max_reads
  pub ended : after.ended ≡ (before.ended || meets_end calls)
  pub none_behind : before.ended ≡ true → calls ≡ []
  pub measured : length (given calls) ≤ piece_bytes * reads calls

-- The calls made for a line, and the result.
abbrev pub NextLine : {S : Type 0} → Making S → S → LinesState → Result (Option (List ℕ)) LinesFault → S → LinesState → Type 0
NextLine makes source before result source_after after =
    (calls : List Call) × AreMade makes source calls source_after × AreReads before calls (failed result) after
    × GivesLine (unread before ++ given calls) result after
