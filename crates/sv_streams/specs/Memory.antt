-- A stream in memory.
use Rattle.std.specs.Prelude.{◌≡◌, ℕ, ◌+◌, ◌-◌, ◌^◌, ◌≤◌, ◌==◌, min, Bool, true, false, List, [], ◌++◌, length}
use Rattle.sv_streams.specs.Calls.{Call, Gave, ReadFailed, Took, WriteFailed}

-- The bytes left to read, the bytes written, the most bytes that a call gives or takes, the number of calls, and the
-- number of the call that fails, or 0 for none.
pub record MemoryState : Type 0 where
  pub unread : List ℕ
  pub written : List ℕ
  pub piece : ℕ
  pub calls : ℕ
  pub failing : ℕ

-- One more call, counted up to the greatest number.
abbrev pub called : MemoryState → MemoryState
called stream = record stream { calls = min (stream.calls + 1) (2 ^ 64 - 1) }

-- Whether the next call must fail.
abbrev pub is_failing : MemoryState → Bool
is_failing stream = (called stream).calls == stream.failing

-- A call. The chosen call fails, and so does a write if memory runs out.
abbrev pub IsMade : MemoryState → Call → MemoryState → Type 0
IsMade before (Gave bytes) after =
    (is_failing before ≡ false) × (before.unread ≡ bytes ++ after.unread) × (length bytes ≤ before.piece) × (bytes ≡ [] → after.unread ≡ [])
    × (after ≡ record (called before) { unread = after.unread })
IsMade before ReadFailed after = (is_failing before ≡ true) × (after ≡ called before)
IsMade before (Took bytes) after =
    (is_failing before ≡ false) × (length bytes ≤ before.piece) × (after ≡ record (called before) { written = before.written ++ bytes })
IsMade before WriteFailed after = after ≡ called before
