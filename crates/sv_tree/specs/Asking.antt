-- Calls of filters and servlets within a dispatch, each followed by its notifications (Jakarta Servlet 6.0, sections
-- 2.3.3, 6.2.1 and 11.3).
use Rattle.std.specs.Prelude.{◌≡◌, ◌⊎◌, ℕ, List, [], ◌∷◌, Option, None, Some}
use Rattle.sv_component.specs.Runs.{Record}
use Rattle.sv_exchange.specs.Changing.{Reaches}
use Rattle.sv_tree.specs.Does.{Does}
use Rattle.sv_tree.specs.State.{Exchange, State, with_exchange}
use Rattle.sv_tree.specs.Telling.{all_told}

-- The exchange with no pending events.
abbrev pub without_events : Exchange → Exchange
without_events exchange = record exchange { events = [] }

-- A component is called: it modifies the exchange only through changing calls, and returns a result. Then listeners
-- are notified of the session events, oldest first. Memory may run out after the notifications.
pub record Asks {A : Type 0} (listeners : ℕ) (call : Exchange → A → Exchange → Record) (before : State) (calls : List Record) (after : State) (result : Option A) : Type 0 where
  pub answer : A
  -- The exchange that the component leaves.
  pub exchange : Exchange
  pub is_made : calls ≡ call before.exchange answer exchange ∷ all_told listeners exchange.events
  pub changes : Reaches before.exchange exchange
  pub is : after ≡ with_exchange (without_events exchange) before
  pub ends : (result ≡ Some answer) ⊎ (result ≡ None)

abbrev pub asks : {A : Type 0} → ℕ → (Exchange → A → Exchange → Record) → Does A
asks listeners call = Asks listeners call
