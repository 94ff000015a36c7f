-- Theorems that relate the writing of bodies to their reading (RFC 9112, sections 6.2, 6.3, 7.1 and 8).
use Rattle.std.specs.Prelude.{◌≡◌, ◌↔◌, ℕ, ◌<◌, ◌≤◌, ◌^◌, Bool, true, false, List, [], ◌++◌, length, All, Some}
use Rattle.sv_wire.specs.declared.body_reader.Framing.TheVariants.{Chunked, Length}
use Rattle.sv_wire.specs.declared.limits.TheConstants.{MAX_BODY_LEN}
use Rattle.sv_wire.specs.Body.{ReadsBody}
use Rattle.sv_wire.specs.Chunks.{Body, complete, unfinished}
use Rattle.sv_message.specs.declared.limits.TheConstants.{MAX_LENGTH_DIGITS}
use Rattle.sv_message.specs.declared.field.Field.{Field}
use Rattle.sv_message.specs.Length.{content_length}
use Rattle.sv_wire.specs.ChunkedBody.{Decodes}
use Rattle.sv_wire.specs.FramingFields.{SaysNoEnd, framed, framing_fields}
use Rattle.sv_message.specs.declared.body.Body.{Body as Sent}
use Rattle.sv_message.specs.declared.body.Body.TheVariants.{Flushed, Whole}
use Rattle.sv_message.specs.Chunking.{joined}
use Rattle.sv_message.specs.Content.{content}
use Rattle.sv_wire.specs.Head.{framing_faults, framing_of}
use Rattle.sv_wire.specs.ResponseText.{field_lines, framing_line}

-- A piece has fewer than 2^64 bytes, as everything in memory does.
abbrev pub FitsMemory : List ℕ → Type 0
FitsMemory piece = length piece < 2 ^ 64

-- A body sent in chunks has one reading: its bytes are the pieces joined, and `later` follows it.
abbrev pub ChunksAreReadBack : Type 0
ChunksAreReadBack =
    (pieces : List (List ℕ)) (later bytes behind : List ℕ) → All FitsMemory pieces
    → (Decodes (content (Flushed pieces true false) ++ later) bytes behind ↔ ((bytes ≡ joined pieces) × (behind ≡ later)))

-- A body sent in chunks has no reading if a last part of it is lost.
abbrev pub CutChunksAreNoBody : Type 0
CutChunksAreNoBody =
    (pieces : List (List ℕ)) (came lost bytes behind : List ℕ) → All FitsMemory pieces
    → came ++ lost ≡ content (Flushed pieces true false) → 0 < length lost → ¬ (Decodes came bytes behind)

-- A body sent in chunks that broke off has no reading either, whether all or a part of it is received.
abbrev pub BrokenChunksAreNoBody : Type 0
BrokenChunksAreNoBody =
    (pieces : List (List ℕ)) (came lost bytes behind : List ℕ) → All FitsMemory pieces
    → came ++ lost ≡ content (Flushed pieces true true) → ¬ (Decodes came bytes behind)

-- The reader of bodies reads a complete body in chunks exactly if there is one within the reader's limit.
abbrev pub ReaderDecodes : Type 0
ReaderDecodes =
    (text bytes behind : List ℕ)
    → (ReadsBody Chunked text (complete bytes behind) ↔ (Decodes text bytes behind × (length bytes ≤ MAX_BODY_LEN)))

-- It reads a body sent in chunks as the pieces joined, followed by `later`, if they are within its limit.
abbrev pub ReaderReadsChunksBack : Type 0
ReaderReadsChunksBack =
    (pieces : List (List ℕ)) (later : List ℕ) (body : Body) → length (joined pieces) ≤ MAX_BODY_LEN
    → (ReadsBody Chunked (content (Flushed pieces true false) ++ later) body ↔ (body ≡ complete (joined pieces) later))

-- It awaits more if a last part is lost, such as the last chunk of a body that broke off.
abbrev pub ReaderAwaitsTheEnd : Type 0
ReaderAwaitsTheEnd =
    (pieces : List (List ℕ)) (came lost : List ℕ) (body : Body) → length (joined pieces) ≤ MAX_BODY_LEN
    → came ++ lost ≡ content (Flushed pieces true false) → 0 < length lost → (ReadsBody Chunked came body ↔ (body ≡ unfinished))

-- The framing line of a body is the line of its framing field.
abbrev pub FramingLinesAreFields : Type 0
FramingLinesAreFields = (body : Sent) → framing_line body ≡ field_lines (framing_fields body)

-- The framing field of a body sent in chunks is read back without a fault, among other fields.
abbrev pub ChunkedFieldsAreReadBack : Type 0
ChunkedFieldsAreReadBack =
    (pieces : List (List ℕ)) (broken : Bool) (before after : List Field) → All SaysNoEnd before → All SaysNoEnd after
    → (framing_of (framed before (Flushed pieces true broken) after) ≡ Chunked)
    × (framing_faults 1 (framed before (Flushed pieces true broken) after) ≡ [])

-- The framing field of a whole body is read back as its length, among other fields.
abbrev pub LengthFieldsAreReadBack : Type 0
LengthFieldsAreReadBack =
    (bytes : List ℕ) (before after : List Field) → All SaysNoEnd before → All SaysNoEnd after → length bytes < 10 ^ MAX_LENGTH_DIGITS
    → (framing_of (framed before (Whole bytes) after) ≡ Length (length bytes))
    × (content_length (framed before (Whole bytes) after) ≡ Some (length bytes))

-- A whole body is read by its length as its bytes, followed by `later`.
abbrev pub WholeIsReadBack : Type 0
WholeIsReadBack =
    (bytes later : List ℕ) (body : Body)
    → (ReadsBody (Length (length bytes)) (content (Whole bytes) ++ later) body ↔ (body ≡ complete bytes later))

-- If a last part of it is lost, more is awaited.
abbrev pub CutWholeIsAwaited : Type 0
CutWholeIsAwaited =
    (bytes came lost : List ℕ) (body : Body) → came ++ lost ≡ content (Whole bytes) → 0 < length lost
    → (ReadsBody (Length (length bytes)) came body ↔ (body ≡ unfinished))
