-- A stream that is read in parts, which are cut after empty lines (RFC 9112, sections 2.1 and 2.2).
use Rattle.std.specs.Prelude.{◌≡◌, ◌⊎◌, ℕ, ◌<◌, ◌==◌, ◌||◌, Bool, true, List, [], ◌++◌, length, slice_index, Result, Ok, Err}
use Rattle.sv_connection.specs.Pieces.{ends_empty_line}
use Rattle.sv_streams.specs.Calls.{Call, Gave, Making, ReadFailed, Took, WriteFailed}

-- A carriage return or a line feed.
abbrev pub is_line_end : ℕ → Bool
is_line_end byte = byte == 13 || byte == 10

-- At least one byte, and only line ends follow an empty line.
abbrev pub IsPart : List ℕ → Type 0
IsPart bytes =
    (0 < length bytes)
    × ((place later : ℕ) → ends_empty_line bytes place ≡ true → place < later → later < length bytes → is_line_end (slice_index bytes later) ≡ true)

-- The stream below, and the bytes that were read from it and not yet returned.
pub record InParts (S : Type 0) : Type 0 where
  pub stream : S
  pub kept : List ℕ

module _ {S : Type 0} (makes : Making S) where
  -- The bytes that a read can return: those that are kept, or those of a read of the stream below if none are kept.
  abbrev pub Comes : InParts S → List ℕ → S → Type 0
  Comes before bytes stream =
      ((0 < length before.kept) × (bytes ≡ before.kept) × (stream ≡ before.stream)) ⊎ ((before.kept ≡ []) × makes before.stream (Gave bytes) stream)

  -- A read returns a first part of these bytes and keeps the rest. A write is a write to the stream below.
  abbrev pub MakesParts : InParts S → Call → InParts S → Type 0
  MakesParts before (Gave part) after =
      (bytes : List ℕ) × Comes before bytes after.stream × (bytes ≡ part ++ after.kept) × (0 < length bytes → IsPart part)
  MakesParts before ReadFailed after = (before.kept ≡ []) × (after.kept ≡ []) × makes before.stream ReadFailed after.stream
  MakesParts before (Took bytes) after = (after.kept ≡ before.kept) × makes before.stream (Took bytes) after.stream
  MakesParts before WriteFailed after = (after.kept ≡ before.kept) × makes before.stream WriteFailed after.stream

  -- The bytes that a read can return are kept, or a read failed.
  abbrev pub HasCome : {E : Type 0} → InParts S → Result (Unit {0}) E → InParts S → Type 0
  HasCome before (Ok done) after = Comes before after.kept after.stream
  HasCome before (Err failed) after = (before.kept ≡ []) × (after.kept ≡ []) × makes before.stream ReadFailed after.stream
