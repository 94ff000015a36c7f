-- The progress of an admitted message.
use Rattle.std.specs.Prelude.{◌≡◌, ◌⊎◌, true, Option, None, Some}
use Rattle.sv_admission.specs.declared.answer.Answer.{Answer}
use Rattle.sv_component.specs.Steps.{ComponentSteps}
use Rattle.sv_exchange.specs.Beginning.{finished}
use Rattle.sv_exchange.specs.State as exchanges
use Rattle.sv_journal.specs.Journal.{JournalState, Takes, with_entry}
use Rattle.sv_journal.specs.declared.entry.Entry.{Entry}
use Rattle.sv_session.specs.declared.event.Event.{Event}
use Rattle.sv_live.specs.Standing.{LiveState}
use Rattle.sv_dispatch.specs.ServedBy.{ServedBy}
use Rattle.sv_session.specs.Store.{Store}
use Rattle.sv_tree.specs.Site.{Site}
use Rattle.sv_uri.specs.declared.path.Canon.{Canon}
use Rattle.sv_message.specs.declared.response.Response.{Response}
use Rattle.sv_context.specs.Answered.{Answered}

module _ {S F L : Type 0} (moving : ComponentSteps S F L) where
  -- Memory ran out at the journal entry, or the message was logged and answered as far as memory allowed.
  abbrev pub RespondsNoted : Site → Canon → Entry → Option Event → Answer → LiveState S F L → exchanges.State → JournalState → Option (Unit {0}) → LiveState S F L → exchanges.State → JournalState → Type 0
  RespondsNoted site canon entry event answer live exchange noted result live_after exchange_after noted_after =
      (result ≡ None) × (live_after ≡ live) × Takes noted entry noted_after
      ⊎ ServedBy moving (Answered site canon event answer) live exchange (with_entry entry noted) result live_after exchange_after noted_after

  -- The end of a message's exchange. The response and the sessions are those of the exchange, or memory ran out.
  abbrev pub EndsExchange : Site → Canon → Entry → Option Event → Answer → LiveState S F L → exchanges.State → JournalState → Option Response → LiveState S F L → Store → JournalState → Type 0
  EndsExchange site canon entry event answer live exchange noted (Some response) live_after store_after noted_after =
      (exchange_after : exchanges.State)
      × RespondsNoted site canon entry event answer live exchange noted (Some tt) live_after exchange_after noted_after
      × (response ≡ finished exchange_after) × (store_after ≡ exchange_after.store) × (noted_after.whole ≡ true)
  EndsExchange site canon entry event answer live exchange noted None live_after store_after noted_after =
      (exchange_after : exchanges.State) × RespondsNoted site canon entry event answer live exchange noted None live_after exchange_after noted_after
