-- A response body sent in pieces (RFC 9112, sections 6.3 and 7.1).
use Rattle.std.specs.Fmt.{digits}
use Rattle.std.specs.List.{flat_map}
use Rattle.std.specs.Prelude.{ℕ, Bool, true, false, List, [], ◌∷◌, ◌++◌, ◌==◌, length, codes, if◌then◌else◌}

-- The bytes written between two flushes make one piece, or none if nothing was written.
abbrev pub piece_of : List ℕ → List (List ℕ)
piece_of bytes = if length bytes == 0 then [] else bytes ∷ []

-- The pieces, concatenated.
abbrev pub joined : List (List ℕ) → List ℕ
joined pieces = flat_map (λ piece. piece) pieces

-- The line with a chunk's size, in lower-case hexadecimal.
abbrev pub size_line : ℕ → List ℕ
size_line size = digits 16 false size ++ codes "\r\n"

-- A piece as a chunk: its size line, its bytes and a line end. An empty piece makes no chunk, since a chunk of size 0
-- is the last one.
abbrev pub chunk : List ℕ → List ℕ
chunk piece = if length piece == 0 then [] else size_line (length piece) ++ piece ++ codes "\r\n"

abbrev pub chunks : List (List ℕ) → List ℕ
chunks pieces = flat_map chunk pieces

-- The last chunk and an empty trailer section, unless the body is truncated.
abbrev pub last_chunk : Bool → List ℕ
last_chunk broken = if broken then [] else codes "0\r\n\r\n"

-- A body in pieces: as chunks if the client reads chunks, and as plain bytes if not.
abbrev pub flushed_content : List (List ℕ) → Bool → Bool → List ℕ
flushed_content pieces true broken = chunks pieces ++ last_chunk broken
flushed_content pieces false broken = joined pieces
