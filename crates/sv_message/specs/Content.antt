-- The body of a response as it is sent: whole, or in pieces (RFC 9112, sections 6.1, 6.3 and 7.1).
use Rattle.std.specs.Prelude.{ℕ, Bool, true, false, ◌||◌, not, List}
use Rattle.sv_message.specs.Chunking.{flushed_content}
use Rattle.sv_message.specs.declared.body.Body.{Body}
use Rattle.sv_message.specs.declared.body.Body.TheVariants.{Whole, Flushed}

-- The body as it is sent.
abbrev pub content : Body → List ℕ
content (Whole bytes) = bytes
content (Flushed pieces chunked broken) = flushed_content pieces chunked broken

-- Whether the body marks its own end, by a length or by chunks.
abbrev pub has_own_end : Body → Bool
has_own_end (Whole bytes) = true
has_own_end (Flushed pieces chunked broken) = chunked

-- Whether nothing can follow the body on its connection: it ends with the connection, or its end is missing.
abbrev pub ends_connection : Body → Bool
ends_connection (Whole bytes) = false
ends_connection (Flushed pieces chunked broken) = not chunked || broken
