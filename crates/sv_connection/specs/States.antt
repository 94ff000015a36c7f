-- The state of an open connection.
use Rattle.std.specs.Prelude.{ℕ, Bool, List, length, nat_eq, not}
use Rattle.sv_connection.specs.declared.phase.Phase.{Phase}

-- The state of an open connection. It has bytes that wait to be passed to the handler (`ahead`) or to be written
-- (`unsent`). It rests if its next call would block or it was armed, and nothing was done since. `under_way` counts the
-- bytes of the message under way that were passed to the handler.
pub record ConnectionState (S : Type 0) : Type 0 where
  pub stream : S
  pub ahead : List ℕ
  pub unsent : List ℕ
  pub phase : Phase
  pub rests : Bool
  pub under_way : ℕ

-- Whether bytes wait to be written.
abbrev pub is_writing : {S : Type 0} → ConnectionState S → Bool
is_writing at = not (nat_eq (length at.unsent) 0)
