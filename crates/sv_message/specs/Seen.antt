-- Reading the codings of a body in order (RFC 9112, section 6.1).
use Rattle.std.specs.Prelude.{ℕ, Bool, List, length, ◌==◌, if◌then◌else◌}
use Rattle.sv_message.specs.declared.codings.Seen.{Seen}
use Rattle.sv_message.specs.declared.codings.Seen.TheVariants.{Nothing, Others, Chunked, OthersThenChunked, BehindChunked}
use Rattle.sv_message.specs.Codings.{plain_part, is_chunked}

-- The state after one more coding, which is `chunked` or not.
abbrev pub next_seen : Seen → Bool → Seen
next_seen Nothing chunked = if chunked then Chunked else Others
next_seen Others chunked = if chunked then OthersThenChunked else Others
next_seen Chunked chunked = BehindChunked
next_seen OthersThenChunked chunked = BehindChunked
next_seen BehindChunked chunked = BehindChunked

-- The state after one more part of a list.
abbrev pub seen_with : Seen → List ℕ → Seen
seen_with seen part =
    if length (plain_part part) == 0 then seen else next_seen seen (is_chunked (plain_part part))
