-- The effect of a call on a reader and a writer of the standard library: on the bytes left to read and the bytes
-- written, if these are known.
use Rattle.std.specs.Prelude.{◌≡◌, ℕ, List, [], Option}
use Rattle.std.specs.Io.KnownBytes.{Appends, Consumes, IsAtEnd, Keeps}
use Rattle.sv_streams.specs.Calls.{Call, Gave, ReadFailed, Took, WriteFailed}

-- A read takes the bytes that it gives from the known bytes, and gives none only at their end. A failed read takes
-- nothing.
abbrev pub IsReadOf : Option (List ℕ) → Call → Option (List ℕ) → Type 0
IsReadOf before (Gave bytes) after = Consumes before after bytes × (bytes ≡ [] → IsAtEnd after)
IsReadOf before ReadFailed after = Keeps before after
IsReadOf before other after = ⊥

-- A write appends the bytes that it takes to the known bytes. A failed write appends nothing.
abbrev pub IsWriteTo : Option (List ℕ) → Call → Option (List ℕ) → Type 0
IsWriteTo before (Took bytes) after = Appends before after bytes
IsWriteTo before WriteFailed after = Keeps before after
IsWriteTo before other after = ⊥

-- A call of a stream that is both.
abbrev pub IsCallOf : Option (List ℕ) → Option (List ℕ) → Call → Option (List ℕ) → Option (List ℕ) → Type 0
IsCallOf remaining contents (Gave bytes) remaining_after contents_after = IsReadOf remaining (Gave bytes) remaining_after
IsCallOf remaining contents ReadFailed remaining_after contents_after = IsReadOf remaining ReadFailed remaining_after
IsCallOf remaining contents (Took bytes) remaining_after contents_after = IsWriteTo contents (Took bytes) contents_after
IsCallOf remaining contents WriteFailed remaining_after contents_after = IsWriteTo contents WriteFailed contents_after
