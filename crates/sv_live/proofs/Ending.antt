-- The components that a stop destroys, and their order.
use Rattle.std.proofs.Common.{◌≡◌, ℕ, List, length, subst}
use Rattle.sv_component.specs.Runs.{Runs}
use Rattle.sv_component.specs.Steps.{ComponentSteps}
use Rattle.sv_journal.specs.Journal.{JournalState}
use Rattle.sv_session.specs.Store.{Session}
use Rattle.sv_live.specs.Calls.{stop_calls}
use Rattle.sv_live.specs.Standing.{LiveState, in_service, live_world}
use Rattle.sv_live.specs.World.{world}
use Rattle.sv_journal.specs.declared.calls.Place.{Place}
use Rattle.sv_live.specs.declared.live.Parts.{Parts}

module _ {S F L : Type 0} (moving : ComponentSteps S F L) where
  pub stops : (before opened : LiveState S F L) (text : List ℕ) (places : List Place) (sessions : List Session) (noted : JournalState) (after : Parts S F L) (noted_after : JournalState)
      → opened ≡ before → text ≡ opened.context → places ≡ in_service opened
      → Runs moving (world text opened.parts noted) (stop_calls (length opened.parts.listeners.items) places sessions) (world text after noted_after)
      → Runs moving (live_world before noted) (stop_calls (length before.parts.listeners.items) (in_service before) sessions) (world before.context after noted_after)
  stops before opened text places sessions noted after noted_after is named are grows =
      subst (λ live. Runs moving (live_world live noted) (stop_calls (length live.parts.listeners.items) (in_service live) sessions) (world live.context after noted_after)) is
      (subst (λ context. Runs moving (world context opened.parts noted) (stop_calls (length opened.parts.listeners.items) (in_service opened) sessions) (world context after noted_after)) named
      (subst (λ all. Runs moving (world text opened.parts noted) (stop_calls (length opened.parts.listeners.items) all sessions) (world text after noted_after)) are grows))
