-- The connections that a container knows. A connection that has closed is known until its input ends or it is lost.
-- Until then it holds the mark that nothing more is read.
use Rattle.std.specs.Prelude.{ℕ, ◌+◌, ◌-◌, List, Option, None, Some, eqb, length, nat_eq}
use Rattle.std.specs.Map.{lookup, update}
use Rattle.sv_wire.specs.Inbox.{Held, awaited_of, nothing_held}
use Rattle.sv_wire.specs.declared.inbox.Awaited.{Awaited}
use Rattle.sv_wire.specs.declared.inbox.Awaited.TheVariants.{Nothing}

-- the bytes and state that the connection of each number holds, if it is known, and the number of known connections
pub record Connections : Type 0 where
  pub held : ℕ → Option Held
  pub known : ℕ

-- the connections that the entries of a map describe, in any order
abbrev pub connections_of : List (ℕ × Held) → Connections
connections_of entries = record { held = λ number. lookup (nat_eq number) entries; known = length entries }

abbrev pub no_connections : Connections
no_connections = record { held = λ number. None; known = 0 }

-- the connections after one of them holds something else; no other changes
abbrev pub with_held : ℕ → Held → Connections → Connections
with_held number held connections = record connections { held = update eqb connections.held number (Some held) }

-- the connections after a new one becomes known
abbrev pub opened : ℕ → Connections → Connections
opened number connections = record { held = update eqb connections.held number (Some nothing_held); known = connections.known + 1 }

-- the connections after one is forgotten
abbrev pub forgotten : ℕ → Connections → Connections
forgotten number connections = record { held = update eqb connections.held number None; known = connections.known - 1 }

-- what is awaited of a connection that holds `held`: nothing of a connection that is not known
abbrev pub awaited_with : Option Held → Awaited
awaited_with None = Nothing
awaited_with (Some held) = awaited_of held

-- what is awaited of the connection with a number
abbrev pub awaited_in : Connections → ℕ → Awaited
awaited_in connections number = awaited_with (connections.held number)
