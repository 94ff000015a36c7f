-- The steps of a line reader.
use Rattle.std.specs.Prelude.{◌≡◌, ℕ, ◌+◌, ◌<◌, ◌≤◌, ◌==◌, false, List, [], ◌∷◌, ◌++◌, length, take, drop, Option, Some, None, Result, Ok, Err}
use Rattle.sv_streams.specs.Calls.{Call, Making}
use Rattle.sv_streams.specs.Calls as calls
use Rattle.sv_streams.specs.Lines.{IsFirstLine, LinesState, has_line_feed, max_reads, piece_bytes, unread}
use Rattle.sv_streams.specs.declared.lines_fault.LinesFault.{LinesFault}
use Rattle.sv_streams.specs.declared.lines_fault.LinesFault.TheVariants.{ReadFailed, TooManyReads, NoMemory}

-- The bytes before their first line feed are appended to the line, or all of them if they have none.
abbrev pub MovesFront : {E : Type 0} → List ℕ → List ℕ → Result (Option ℕ) E → List ℕ → Type 0
MovesFront line bytes (Ok (Some place)) after =
    (after ≡ line ++ take place bytes) × (has_line_feed (take place bytes) ≡ false)
    × (bytes ≡ take place bytes ++ 10 ∷ drop (place + 1) bytes) × (place + 1 ≤ length bytes)
MovesFront line bytes (Ok None) after = (after ≡ line ++ bytes) × (has_line_feed bytes ≡ false)
MovesFront line bytes (Err refused) after = after ≡ line

-- The number of reads is unchanged, and so is whether the end was met.
abbrev pub AsMuchRead : LinesState → LinesState → Type 0
AsMuchRead before after = (after.reads ≡ before.reads) × (after.ended ≡ before.ended)

-- A line that ends in the bytes read is taken, if there is one.
abbrev pub TakesLine : {E : Type 0} → LinesState → Result (Option (List ℕ)) E → LinesState → Type 0
TakesLine before (Ok (Some line)) after = IsFirstLine line (unread before) (unread after) × AsMuchRead before after
TakesLine before (Ok None) after =
    (unread after ≡ unread before) × (after.ahead ≡ []) × (has_line_feed (unread before) ≡ false) × AsMuchRead before after
TakesLine before (Err refused) after = after ≡ before

-- The incomplete line is taken, unless it is empty.
abbrev pub LastLine : LinesState → Option (List ℕ) → LinesState → Type 0
LastLine before None after = (before.line ≡ []) × (after ≡ before)
LastLine before (Some line) after = (line ≡ before.line) × (0 < length line) × (after ≡ record before { line = [] })

-- One read was made, unless the limit of reads was reached or memory ran out.
abbrev pub ReadsOnce : {S : Type 0} → Making S → S → LinesState → Result (Unit {0}) LinesFault → S → LinesState → Type 0
ReadsOnce makes source before (Ok done) source_after after =
    makes source (calls.Gave after.ahead) source_after × (before.reads < max_reads)
    × (after ≡ record { line = before.line; ahead = after.ahead; reads = before.reads + 1; ended = length after.ahead == 0 })
    × (length after.ahead ≤ piece_bytes)
ReadsOnce makes source before (Err ReadFailed) source_after after =
    makes source calls.ReadFailed source_after × (before.reads < max_reads) × (after ≡ record before { reads = before.reads + 1 })
ReadsOnce makes source before (Err TooManyReads) source_after after = (source_after ≡ source) × (after ≡ before) × (max_reads ≤ before.reads)
ReadsOnce makes source before (Err NoMemory) source_after after = (source_after ≡ source) × (after ≡ before)

-- One read gave these bytes, unless it failed or memory ran out.
abbrev pub Refills : {S : Type 0} → Making S → S → Result (Unit {0}) LinesFault → S → List ℕ → Type 0
Refills makes source (Ok done) source_after bytes = makes source (calls.Gave bytes) source_after × (length bytes ≤ piece_bytes)
Refills makes source (Err ReadFailed) source_after bytes = makes source calls.ReadFailed source_after × (bytes ≡ [])
Refills makes source (Err TooManyReads) source_after bytes = ⊥
Refills makes source (Err NoMemory) source_after bytes = (source_after ≡ source) × (bytes ≡ [])
