-- The notification order (Jakarta Servlet 6.0, sections 11.3.3 and 11.3.4). Listeners receive events in the order of
-- their declaration, and in reverse order when a context, request or session ends.
use Rattle.std.specs.Prelude.{ℕ, Bool, true, false, List, [], length, map, reverse, if◌then◌else◌}
use Rattle.std.specs.List.{range_with_len}
use Rattle.sv_component.specs.Call.{Call}
use Rattle.sv_component.specs.Runs.{OfListener, Record, Runs}
use Rattle.sv_component.specs.World.{World}
use Rattle.sv_journal.specs.Journal.{JournalState}
use Rattle.sv_session.specs.declared.event.Event.{Event}
use Rattle.sv_session.specs.declared.event.Event.TheVariants.{ContextInitialized, ContextDestroyed, RequestInitialized, RequestDestroyed, SessionCreated, SessionDestroyed, SessionIdChanged, AttributeAdded, AttributeReplaced, AttributeRemoved}
use Rattle.sv_component.specs.Steps.{listening}

-- Whether a context, a request or a session ends.
abbrev pub is_end : Event → Bool
is_end ContextInitialized = false
is_end ContextDestroyed = true
is_end RequestInitialized = false
is_end RequestDestroyed = true
is_end (SessionCreated number) = false
is_end (SessionDestroyed number) = true
is_end (SessionIdChanged number) = false
is_end (AttributeAdded number name) = false
is_end (AttributeReplaced number name) = false
is_end (AttributeRemoved number name) = false

-- The indexes of this many listeners in notification order.
abbrev pub hearing_order : Event → ℕ → List ℕ
hearing_order event count = if is_end event then reverse (range_with_len 0 count) else range_with_len 0 count

-- Each of this many listeners receives the event once.
unfoldable pub told : Event → ℕ → List Record
told event count = map (λ place. OfListener place event) (hearing_order event count)

-- A world with listeners, their journal, and no other component.
abbrev pub listeners_alone : {L : Type 0} → List ℕ → List L → JournalState → World (Unit {0}) (Unit {0}) L
listeners_alone its_context its_listeners its_journal = record {
  context = its_context;
  servlets = [];
  filters = [];
  listeners = its_listeners;
  journal = its_journal;
}

-- The listeners receive the event in notification order, and the journal takes an entry after each.
abbrev pub Tells : {L : Type 0} → (L → Call → L → Type 0) → List ℕ → Event → List L → JournalState → List L → JournalState → Type 0
Tells listener_step context event listeners journal listeners_after journal_after =
    Runs (listening listener_step)
    (listeners_alone context listeners journal) (told event (length listeners)) (listeners_alone context listeners_after journal_after)
