-- The model of a peer's calls.
use Rattle.std.specs.Prelude.{◌≡◌, ℕ, ◌<◌, ◌≤◌, Bool, true, false, List, [], length, take, Result, Ok, Err}
use Rattle.sv_connection.specs.declared.peer.Tried.{Tried}
use Rattle.sv_connection.specs.declared.peer.Tried.TheVariants.{Done, Failed, WouldBlock}
use Rattle.sv_text.specs.declared.no_memory.NoMemory.{NoMemory}
use Rattle.sv_streams.specs.Calls.{Gave, Making, ReadFailed, Took, WriteFailed}

-- Calls that give, take or fail; calls that would block; and calls that arm the stream.
pub record Ways (S : Type 0) : Type 1 where
  pub makes : Making S
  pub blocks : S → S → Type 0
  pub arms : S → S → Type 0

module _ {S : Type 0} (ways : Ways S) where
  -- A read into a buffer, by its result and the buffer after it.
  abbrev pub TriesRead : S → Tried → List ℕ → S → Type 0
  TriesRead before (Done count) buffer after = (count ≤ length buffer) × ways.makes before (Gave (take count buffer)) after
  TriesRead before WouldBlock buffer after = ways.blocks before after
  TriesRead before Failed buffer after = ways.makes before ReadFailed after

  -- A read is known to block, or nothing is known of it.
  abbrev pub TellsWait : S → Bool → S → Type 0
  TellsWait before true after = ways.blocks before after
  TellsWait before false after = after ≡ before

  -- A write of bytes, by its result.
  abbrev pub TriesWrite : S → Tried → List ℕ → S → Type 0
  TriesWrite before (Done count) bytes after = (0 < count) × (count ≤ length bytes) × ways.makes before (Took (take count bytes)) after
  TriesWrite before WouldBlock bytes after = ways.blocks before after
  TriesWrite before Failed bytes after = ways.makes before WriteFailed after

  -- A read was tried, and gave these bytes.
  abbrev pub ReadsPiece : S → Tried → S → List ℕ → Type 0
  ReadsPiece before (Done count) after bytes = (count ≡ length bytes) × ways.makes before (Gave bytes) after
  ReadsPiece before WouldBlock after bytes = (bytes ≡ []) × ways.blocks before after
  ReadsPiece before Failed after bytes = (bytes ≡ []) × ways.makes before ReadFailed after

  abbrev pub Refills : S → Result Tried NoMemory → S → List ℕ → Type 0
  Refills before (Ok tried) after bytes = ReadsPiece before tried after bytes
  Refills before (Err refused) after bytes = (bytes ≡ []) × (after ≡ before)
