-- The state of a container.
use Rattle.std.specs.Prelude.{ℕ, Bool, List}
use Rattle.sv_run.specs.Connections.{Connections, with_held}
use Rattle.sv_wire.specs.Inbox.{Held}

-- the contexts in order, and the source of random words
pub record World (Context Words : Type 0) : Type 0 where
  pub contexts : List Context
  pub words : Words

-- `stopped` says that an earlier event ran out of memory; the time is in seconds since 1970
pub record State (Context Words : Type 0) : Type 0 where
  pub stopped : Bool
  pub world : World Context Words
  pub moment : ℕ
  pub connections : Connections

module _ {Context Words : Type 0} where
  abbrev pub world_of : List Context → Words → World Context Words
  world_of contexts words = record { contexts = contexts; words = words }

  -- the state after a connection holds something else; nothing else changes
  abbrev pub holding : ℕ → Held → State Context Words → State Context Words
  holding number held state = record state { connections = with_held number held state.connections }

  -- the state with other contexts; nothing else changes
  abbrev pub with_contexts : List Context → State Context Words → State Context Words
  with_contexts contexts state = record state { world = record { contexts = contexts; words = state.world.words } }

  -- the state at a time, with the contexts after the expired sessions have ended
  abbrev pub settled_at : ℕ → List Context → State Context Words → State Context Words
  settled_at moment contexts state = record state { moment = moment; world = record { contexts = contexts; words = state.world.words } }
