-- Nonblocking reads and writes, stated with the bytes that a reader has left and a writer has taken, if they are
-- known.
use Rattle.std.specs.Prelude.{◌<◌, ◌≤◌, ◌⊎◌, ℕ, List, length, take, Option}
use Rattle.std.specs.Io.KnownBytes.{Keeps}
use Rattle.sv_connection.specs.declared.peer.Tried.{Tried}
use Rattle.sv_connection.specs.declared.peer.Tried.TheVariants.{Done, Failed, WouldBlock}
use Rattle.sv_streams.specs.Calls.{Gave, ReadFailed, Took, WriteFailed}
use Rattle.sv_streams.specs.Standard.{IsReadOf, IsWriteTo}

-- a read fills the front of its buffer; a read that would block takes nothing
abbrev pub ReadsSome : Option (List ℕ) → Tried → List ℕ → Option (List ℕ) → Type 0
ReadsSome before (Done count) buffer after = (count ≤ length buffer) × IsReadOf before (Gave (take count buffer)) after
ReadsSome before WouldBlock buffer after = Keeps before after
ReadsSome before Failed buffer after = IsReadOf before ReadFailed after

-- a write takes the first bytes; a write that would block adds nothing
abbrev pub WritesSome : Option (List ℕ) → Tried → List ℕ → Option (List ℕ) → Type 0
WritesSome before (Done count) bytes after = (0 < count) × (count ≤ length bytes) × IsWriteTo before (Took (take count bytes)) after
WritesSome before WouldBlock bytes after = Keeps before after
WritesSome before Failed bytes after = IsWriteTo before WriteFailed after

-- a call that would block on a stream that is both: a read takes nothing, or a write adds nothing
abbrev pub Blocks : Option (List ℕ) → Option (List ℕ) → Option (List ℕ) → Option (List ℕ) → Type 0
Blocks remaining contents remaining_after contents_after = Keeps remaining remaining_after ⊎ Keeps contents contents_after
