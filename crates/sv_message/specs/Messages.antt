-- A message with a body (RFC 9112, section 6).
use Rattle.std.specs.Prelude.{ℕ, List}
use Rattle.sv_message.specs.declared.message.Message.{Message}

-- The message with the given body.
abbrev pub with_body : List ℕ → Message → Message
with_body bytes message = record message { body = bytes }
