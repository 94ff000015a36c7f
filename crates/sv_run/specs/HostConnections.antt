-- Reading a piece of one of several connections.
use Rattle.std.specs.Prelude.{◌≡◌, ℕ, List, Option, None, Some}
use Rattle.sv_run.specs.declared.connections.Latest.{Latest}
use Rattle.sv_run.specs.Connections.{Connections, awaited_in, with_held}
use Rattle.sv_run.specs.Feeding.{Feeds}
use Rattle.sv_wire.specs.Inbox.{Held}
use Rattle.sv_wire.specs.declared.item.Item.{Item}

-- the piece of a connection completes the items, and changes no other connection
pub record FeedsOne (before : Connections) (number : ℕ) (piece : List ℕ) (items : List Item) (after : Connections) : Type 0 where
  pub held : Held
  pub left : Held
  pub holds : before.held number ≡ Some held
  pub feeds : Feeds held piece items left
  pub is_after : after ≡ with_held number left before

-- what is known to be awaited of one connection is awaited of it
abbrev pub IsAwaited : Connections → Option Latest → Type 0
IsAwaited connections None = Unit {0}
IsAwaited connections (Some latest) = awaited_in connections latest.number ≡ latest.awaited
