-- The state that a dispatch changes: the exchange, with the count of calls and the error to report, and the
-- availability of servlets (Jakarta Servlet 6.0, section 2.3.3.2 and chapters 6, 9 and 10).
use Rattle.std.specs.Prelude.{ℕ, ◌+◌, Bool, min, nat_le, List, slice_index_or, slice_set}
use Rattle.sv_exchange.specs.Keeping as keeping
use Rattle.sv_exchange.specs.State as exchanges
pub use Rattle.sv_exchange.specs.declared.error.KeptError.{KeptError}
pub use Rattle.sv_exchange.specs.declared.error.KeptField.{KeptField}
use Rattle.sv_component.specs.Standing.{standing_now}
pub use Rattle.sv_component.specs.declared.standing.Standing.{Standing}
pub use Rattle.sv_component.specs.declared.standing.Standing.TheVariants.{Serving, Gone, Away}
use Rattle.sv_tree.specs.declared.limits.TheConstants.{GREATEST_MOMENT, MAX_CALLS}

abbrev pub Exchange : Type 0
Exchange = exchanges.State

-- The exchange, and the availability of each servlet, in the order of the descriptor.
pub record State : Type 0 where
  pub exchange : Exchange
  pub standings : List Standing

abbrev pub with_exchange : Exchange → State → State
with_exchange exchange state = record state { exchange = exchange }

abbrev pub on_exchange : (Exchange → Exchange) → State → State
on_exchange change state = with_exchange (change state.exchange) state

-- Sets the error that the response reports.
abbrev pub with_kept : KeptError → State → State
with_kept kept = on_exchange (keeping.with_kept kept)

-- Whether the request has used up its calls.
abbrev pub is_full : State → Bool
is_full state = nat_le MAX_CALLS state.exchange.calls

-- Counts one more call.
abbrev pub counted : State → State
counted = on_exchange keeping.counted

abbrev pub with_standing : ℕ → Standing → State → State
with_standing place standing state = record state { standings = slice_set state.standings place standing }

-- The time after this many seconds, at most the latest time.
abbrev pub moment_after : ℕ → ℕ → ℕ
moment_after moment seconds = min (moment + seconds) GREATEST_MOMENT

-- The servlet is unavailable for this many seconds from the time of the exchange.
abbrev pub away_for : ℕ → ℕ → State → State
away_for place seconds state = with_standing place (Away (moment_after state.exchange.moment seconds)) state

-- The availability of the servlet at an index.
abbrev pub standing_at : ℕ → ℕ → List Standing → Standing
standing_at moment place standings = standing_now moment (slice_index_or standings place Gone)
