-- The parts of an exchange that components cannot change (Jakarta Servlet 6.0, chapters 6, 9 and 10).
use Rattle.std.specs.Prelude.{◌≡◌, suc, true, Some}
use Rattle.sv_exchange.specs.declared.error.KeptError.{KeptError}
use Rattle.sv_exchange.specs.State.{State}

-- The state with the error that the response will report.
abbrev pub with_kept : KeptError → State → State
with_kept kept before = record before { kept = Some kept }

-- The state with one more call.
abbrev pub counted : State → State
counted before = record before { calls = suc before.calls }

-- The state with a truncated response.
abbrev pub broken_off : State → State
broken_off before = record before { broken = true }

-- The request, the active dispatches, the kept error, the count of calls, the random words and whether the response is
-- truncated are the same.
pub record SameRequest (before after : State) : Type 0 where
  pub method : after.method ≡ before.method
  pub context_path : after.context_path ≡ before.context_path
  pub cookie_settings : after.cookie_settings ≡ before.cookie_settings
  pub request_fields : after.request_fields ≡ before.request_fields
  pub body : after.body ≡ before.body
  pub moment : after.moment ≡ before.moment
  pub reads_chunks : after.reads_chunks ≡ before.reads_chunks
  pub client : after.client ≡ before.client
  pub dispatches : after.dispatches ≡ before.dispatches
  pub calls : after.calls ≡ before.calls
  pub kept : after.kept ≡ before.kept
  pub broken : after.broken ≡ before.broken
  pub words : after.words ≡ before.words

-- The status and the fields are the same.
abbrev pub SameHead : State → State → Type 0
SameHead before after = (after.status ≡ before.status) × (after.fields ≡ before.fields)
