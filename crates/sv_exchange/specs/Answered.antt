-- Queries on the response so far (Jakarta Servlet 6.0, chapter 5).
use Rattle.std.specs.Prelude.{ℕ, ◌+◌, ◌-◌, ◌^◌, length, min}
use Rattle.sv_exchange.specs.State.{State}
use Rattle.sv_message.specs.Chunking.{joined}

-- The number of bytes written, at most the maximum `usize`.
abbrev pub written_len : State → ℕ
written_len x = min (length (joined x.flushed) + length x.buffer) (2 ^ 64 - 1)
