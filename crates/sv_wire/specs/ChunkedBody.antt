-- A chunked body of any length (RFC 9112, section 7.1). Its size lines, chunks and trailer section are those that the
-- reader of bodies reads.
use Rattle.std.specs.Prelude.{◌≡◌, ℕ, ◌<◌, Bool, List, [], ◌∷◌, take, drop, nat_eq, Some}
use Rattle.std.specs.List.{ends_with}
use Rattle.httparse.specs.Ascii.{line_feed}
use Rattle.sv_wire.specs.declared.limits.TheConstants.{MAX_SIZE_LINE_LEN}
use Rattle.sv_wire.specs.Chunks.{ReadsSize, chunk, complete, read_data, read_trailer}
use Rattle.sv_text.specs.declared.front.Cut.TheVariants.{Whole}
use Rattle.sv_text.specs.Front.{cut}
use Rattle.sv_message.specs.Chunking.{joined}

-- A line ends at its LF.
abbrev pub ends_line : List ℕ → Bool
ends_line text = ends_with nat_eq text (line_feed ∷ [])

-- The text begins with a line that gives `size`, followed by `behind`.
abbrev pub BeginsWithSize : List ℕ → ℕ → List ℕ → Type 0
BeginsWithSize text size behind =
    (len : ℕ) × (cut ends_line MAX_SIZE_LINE_LEN text ≡ Whole len) × ReadsSize (take len text) (Some size) × (behind ≡ drop len text)

-- The text begins with a chunk of these bytes, followed by `behind`.
abbrev pub BeginsWithChunk : List ℕ → List ℕ → List ℕ → Type 0
BeginsWithChunk text data_bytes behind =
    (size : ℕ) × (rest : List ℕ) × BeginsWithSize text size rest × (0 < size) × (read_data size rest ≡ chunk data_bytes behind)

-- The text begins with the last chunk and the trailer section, followed by `behind`.
abbrev pub BeginsWithEnd : List ℕ → List ℕ → Type 0
BeginsWithEnd text behind = (rest : List ℕ) × BeginsWithSize text 0 rest × (read_trailer [] rest ≡ complete [] behind)

-- The text begins with a chunked body of these chunks, followed by `behind`.
abbrev pub BeginsWithBody : List ℕ → List (List ℕ) → List ℕ → Type 0
BeginsWithBody text [] behind = BeginsWithEnd text behind
BeginsWithBody text (data_bytes ∷ chunks) behind = (rest : List ℕ) × BeginsWithChunk text data_bytes rest × BeginsWithBody rest chunks behind

-- The text begins with a chunked body of these bytes, followed by `behind`.
abbrev pub Decodes : List ℕ → List ℕ → List ℕ → Type 0
Decodes text bytes behind = (chunks : List (List ℕ)) × BeginsWithBody text chunks behind × (bytes ≡ joined chunks)
