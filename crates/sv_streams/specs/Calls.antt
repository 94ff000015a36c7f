-- The effects of calls of a reader and a writer.
use Rattle.std.specs.Prelude.{◌≡◌, ℕ, ◌+◌, ◌<◌, Bool, true, false, List, [], ◌∷◌, ◌++◌, length, map, take, Result, Ok, Err}
use Rattle.std.specs.List.{concat, list_any}
use Rattle.sv_streams.specs.declared.stream.WriteFailed.{WriteFailed as WriteFault}

-- A read gave bytes (none at the end) or failed, or a write took bytes or failed.
pub data Call : Type 0 where
  Gave : List ℕ → Call
  ReadFailed : Call
  Took : List ℕ → Call
  WriteFailed : Call

-- The read with this result and these contents of its buffer.
abbrev pub read_call : {E : Type 0} → Result ℕ E → List ℕ → Call
read_call (Ok count) buffer = Gave (take count buffer)
read_call (Err failed) buffer = ReadFailed

-- The write with this result and these bytes to write.
abbrev pub write_call : {E : Type 0} → Result ℕ E → List ℕ → Call
write_call (Ok count) bytes = Took (take count bytes)
write_call (Err failed) bytes = WriteFailed

-- The read with this result and this piece.
abbrev pub read_result : {E : Type 0} → Result (Unit {0}) E → List ℕ → Call
read_result (Ok done) piece = Gave piece
read_result (Err failed) piece = ReadFailed

-- The model of calls: the stream before a call, the call, and the stream after it.
abbrev pub Making : Type 0 → Type 1
Making S = S → Call → S → Type 0

-- The calls lead from the first stream to the last.
abbrev pub AreMade : {S : Type 0} → Making S → S → List Call → S → Type 0
AreMade makes before [] after = after ≡ before
AreMade {S} makes before (call ∷ calls) after = (between : S) × makes before call between × AreMade makes between calls after

-- The bytes that a read gave.
abbrev pub bytes_given : Call → List ℕ
bytes_given (Gave bytes) = bytes
bytes_given other = []

abbrev pub given : List Call → List ℕ
given [] = []
given (call ∷ calls) = bytes_given call ++ given calls

-- The bytes that a write took.
abbrev pub bytes_taken : Call → List ℕ
bytes_taken (Took bytes) = bytes
bytes_taken other = []

abbrev pub taken : List Call → List ℕ
taken [] = []
taken (call ∷ calls) = bytes_taken call ++ taken calls

-- Counts reads, including failed ones.
abbrev pub is_read : Call → ℕ
is_read (Gave bytes) = 1
is_read ReadFailed = 1
is_read other = 0

abbrev pub reads : List Call → ℕ
reads [] = 0
reads (call ∷ calls) = is_read call + reads calls

-- Counts failed calls.
abbrev pub is_failure : Call → ℕ
is_failure ReadFailed = 1
is_failure WriteFailed = 1
is_failure other = 0

abbrev pub failures : List Call → ℕ
failures [] = 0
failures (call ∷ calls) = is_failure call + failures calls

-- Whether a call is a read that gave nothing.
abbrev pub is_end : Call → Bool
is_end (Gave []) = true
is_end other = false

abbrev pub meets_end : List Call → Bool
meets_end calls = list_any is_end calls

-- Writes of all bytes, or of a part of them: then the last call is a write that failed, and at least one byte is left.
abbrev pub AreWrites : List ℕ → Result (Unit {0}) WriteFault → List (List ℕ) → List Call → Type 0
AreWrites bytes (Ok done) pieces calls = (calls ≡ map Took pieces) × (concat pieces ≡ bytes)
AreWrites bytes (Err failed) pieces calls =
    (rest : List ℕ) × (calls ≡ map Took pieces ++ WriteFailed ∷ []) × (concat pieces ++ rest ≡ bytes) × (0 < length rest)

-- All of the bytes were written in pieces, unless a write failed.
abbrev pub WritesAll : {S : Type 0} → Making S → List ℕ → S → Result (Unit {0}) WriteFault → S → Type 0
WritesAll makes bytes before result after =
    (pieces : List (List ℕ)) × (calls : List Call) × AreMade makes before calls after × AreWrites bytes result pieces calls
