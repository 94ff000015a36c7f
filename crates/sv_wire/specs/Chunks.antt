-- The chunks of a body (RFC 9112, section 7.1). The limits are this server's own.
use Rattle.std.specs.Prelude.{◌≡◌, ℕ, ◌+◌, Bool, ◌||◌, List, [], ◌∷◌, ◌++◌, length, take, drop, ◌==◌, nat_eq, nat_lt, bytes_eq, if◌then◌else◌, Option, None, Some}
use Rattle.std.specs.List.{ends_with}
use Rattle.httparse.specs.Ascii.{line_feed, crlf_bytes}
use Rattle.httparse.specs.Grammar.{ChunkLine, ReadsChunkLine, chunk_size}
use Rattle.sv_wire.specs.declared.body_fault.BodyFault.{BodyFault}
use Rattle.sv_wire.specs.declared.body_fault.BodyFault.TheVariants.{BadChunk, TooLarge, TrailerTooLarge}
use Rattle.sv_text.specs.declared.front.Cut.{Cut}
use Rattle.sv_text.specs.declared.front.Cut.TheVariants.{Whole, Endless, Unended}
use Rattle.sv_wire.specs.declared.text_kind.TextKind.{TextKind}
use Rattle.sv_wire.specs.declared.text_kind.TextKind.TheVariants.{SizeLine, Trailer}
use Rattle.sv_wire.specs.declared.limits.TheConstants.{MAX_BODY_LEN, MAX_SIZE_LINE_LEN, MAX_TRAILER_LEN}
use Rattle.sv_text.specs.Front.{cut}

-- The reading of a body.
pub data Body : Type 0 where
  -- It has not ended.
  unfinished : Body
  -- Its bytes, and the text after it.
  complete : List ℕ → List ℕ → Body
  -- A fault, and the text after the place where it is found.
  broken : BodyFault → List ℕ → Body

-- The reading of the next chunk.
pub data Part : Type 0 where
  -- The bytes of the chunk, and the text after it.
  chunk : List ℕ → List ℕ → Part
  -- No further chunk, and the reading of the body.
  last : Body → Part

-- Whether a text is complete. A size line ends with LF; a trailer section is a single CRLF or ends with two.
abbrev pub ends_text : TextKind → List ℕ → Bool
ends_text SizeLine text = ends_with nat_eq text (line_feed ∷ [])
ends_text Trailer text = bytes_eq text crlf_bytes || ends_with nat_eq text (crlf_bytes ++ crlf_bytes)

-- The number of bytes within which a text must end.
abbrev pub text_limit : TextKind → ℕ
text_limit SizeLine = MAX_SIZE_LINE_LEN
text_limit Trailer = MAX_TRAILER_LEN

-- Where the text at the start of a stream ends.
abbrev pub cut_text : TextKind → List ℕ → Cut
cut_text kind stream = cut (ends_text kind) (text_limit kind) stream

-- The size that a whole line gives, or none if it is not a size line.
abbrev pub ReadsSize : List ℕ → Option ℕ → Type 0
ReadsSize line None = (l : ChunkLine) → ¬ (ReadsChunkLine line l [])
ReadsSize line (Some size) = (l : ChunkLine) × ReadsChunkLine line l [] × (size ≡ chunk_size l)

-- The reading of a body, by where its trailer section ends. The section is dropped.
abbrev pub trailer_at : Cut → List ℕ → List ℕ → Body
trailer_at (Whole len) bytes text = complete bytes (drop len text)
trailer_at Endless bytes text = broken TrailerTooLarge (drop MAX_TRAILER_LEN text)
trailer_at Unended bytes text = unfinished

-- The reading of a body that has these bytes, from the text after its last chunk.
abbrev pub read_trailer : List ℕ → List ℕ → Body
read_trailer bytes text = trailer_at (cut_text Trailer text) bytes text

-- The reading of a chunk of this size from the text after its size line: its bytes and CRLF.
abbrev pub read_data : ℕ → List ℕ → Part
read_data size text =
    if nat_lt (length text) (size + 2) then last unfinished
    else if bytes_eq (take 2 (drop size text)) crlf_bytes then chunk (take size text) (drop (size + 2) text)
    else last (broken BadChunk (drop (size + 2) text))

-- The reading of the text after a size line, given the bytes of the chunks before it.
abbrev pub after_line : List ℕ → Option ℕ → List ℕ → Part
after_line bytes None text = last (broken BadChunk text)
after_line bytes (Some size) text =
    if nat_lt MAX_BODY_LEN (length bytes + size) then last (broken TooLarge text)
    else if size == 0 then last (read_trailer bytes text)
    else read_data size text

-- The reading of the next chunk, by where its size line ends.
abbrev pub BeginsAt : Cut → List ℕ → List ℕ → Part → Type 0
BeginsAt (Whole len) bytes text part = (size : Option ℕ) × ReadsSize (take len text) size × (part ≡ after_line bytes size (drop len text))
BeginsAt Endless bytes text part = part ≡ last (broken BadChunk (drop MAX_SIZE_LINE_LEN text))
BeginsAt Unended bytes text part = part ≡ last unfinished

-- The reading of the next chunk, given the bytes of the chunks before it.
abbrev pub Begins : List ℕ → List ℕ → Part → Type 0
Begins bytes text part = BeginsAt (cut_text SizeLine text) bytes text part

-- The text that follows chunks with these `bytes` consists of these chunks, and gives this reading of the whole body.
abbrev pub ReadsChunks : List ℕ → List ℕ → List (List ℕ) → Body → Type 0
ReadsChunks bytes text [] body = Begins bytes text (last body)
ReadsChunks bytes text (data_bytes ∷ chunks) body =
    (rest : List ℕ) × Begins bytes text (chunk data_bytes rest) × ReadsChunks (bytes ++ data_bytes) rest chunks body
