-- The body of a message by its framing (RFC 9112, section 6).
use Rattle.std.specs.Prelude.{◌≡◌, ℕ, ◌≤◌, List, [], ◌++◌, length, take, drop, nat_lt, if◌then◌else◌, ⊤}
use Rattle.sv_wire.specs.declared.body_reader.Framing.{Framing}
use Rattle.sv_wire.specs.declared.body_reader.Framing.TheVariants.{Length, Chunked}
use Rattle.sv_wire.specs.declared.limits.TheConstants.{MAX_BODY_LEN}
use Rattle.sv_wire.specs.Chunks.{Body, unfinished, complete, ReadsChunks}

-- What contracts see of a body that is being read: its framing, and the bytes received so far.
pub record Awaited : Type 0 where
  pub framing : Framing
  pub came : List ℕ

-- Before the first byte.
abbrev pub nothing_came : Framing → Awaited
nothing_came framing = record { framing = framing; came = [] }

-- The reading of a text that continues a body of known length: `bytes` were read before, and `count` more are due.
abbrev pub read_length : List ℕ → ℕ → List ℕ → Body
read_length bytes count text =
    if nat_lt (length text) count then unfinished else complete (bytes ++ take count text) (drop count text)

-- The reading of the body at the start of the text.
abbrev pub ReadsBody : Framing → List ℕ → Body → Type 0
ReadsBody (Length count) text body = body ≡ read_length [] count text
ReadsBody Chunked text body = (chunks : List (List ℕ)) × ReadsChunks [] text chunks body

-- A framing that keeps its body within the limit. A length is checked here, and chunks are checked as they are read.
abbrev pub FitsLimit : Framing → Type 0
FitsLimit (Length count) = count ≤ MAX_BODY_LEN
FitsLimit Chunked = ⊤
