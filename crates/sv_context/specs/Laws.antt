-- Laws of every expiry of a context's sessions (Jakarta Servlet 6.0, section 7.5).
use Rattle.std.specs.Prelude.{◌≡◌, ℕ}
use Rattle.sv_component.specs.Steps.{ComponentSteps}
use Rattle.sv_journal.specs.Journal.{JournalState}
use Rattle.sv_session.specs.Expiry.{HasNoneExpired}
use Rattle.sv_context.specs.Expiry.{Expires}
use Rattle.sv_context.specs.State.{ContextState}

-- After an expiry, no session has expired at its time.
abbrev pub ExpiryLeavesNone : {S F L : Type 0} → ComponentSteps S F L → Type 0
ExpiryLeavesNone {S} {F} {L} moving =
    (moment : ℕ) (before after : ContextState S F L) (noted noted_after : JournalState)
    → Expires moving moment before noted after noted_after → HasNoneExpired moment after.store

-- If no session has expired, an expiry is possible, and it changes nothing and notifies no listener.
abbrev pub ExpiryOfNoneIsNothing : {S F L : Type 0} → ComponentSteps S F L → Type 0
ExpiryOfNoneIsNothing {S} {F} {L} moving =
    (moment : ℕ) (before : ContextState S F L) (noted : JournalState) → HasNoneExpired moment before.store
    → Expires moving moment before noted before noted
    × ((after : ContextState S F L) (noted_after : JournalState)
    → Expires moving moment before noted after noted_after → (after ≡ before) × (noted_after ≡ noted))
