-- What a container does for its events, one transition after another, and how each leads its contexts on (Jakarta Servlet
-- 6.0, sections 7.5, 11.3 and 13.8).
use Rattle.std.specs.Prelude.{◌≡◌, ◌≢◌, ℕ, ◌==◌, true, List, [], ◌∷◌, length, map, Option, None, Some, Result, Err, slice_get, slice_set, if◌then◌else◌}
use Rattle.std.specs.List.{AllByRecursion, flat_map}
use Rattle.std.specs.Option.{option_map_or}
use Rattle.sv_component.specs.Runs.{IsRun, Record, record_entry}
use Rattle.sv_component.specs.Steps.{ComponentSteps}
use Rattle.sv_context.specs.Conduct.{caller_in, unnoted}
use Rattle.sv_context.specs.Expiry.{ends_told}
use Rattle.sv_context.specs.State.{ContextState, IsSameDeployment, world_of}
use Rattle.sv_headline.specs.Message.{IsLawfulMessage}
use Rattle.sv_journal.specs.declared.entry.Entry.{Entry}
use Rattle.sv_journal.specs.declared.entry.Entry.TheVariants.{Refused}
use Rattle.sv_journal.specs.declared.refusal_cause.RefusalCause.TheVariants as causes
use Rattle.sv_message.specs.declared.message.Message.{Message}
use Rattle.sv_message.specs.declared.response.Response.{Response}
use Rattle.sv_policy.specs.Compiled.{Standing}
use Rattle.sv_policy.specs.Edits.{GivesOutcome, edit_outcome}
use Rattle.sv_policy.specs.declared.edit.Edit.{Edit}
use Rattle.sv_policy.specs.declared.edit_fault.EditFault.{EditFault}
use Rattle.sv_policy.specs.declared.edit_fault.EditFault.TheVariants as faults
use Rattle.sv_run.specs.Contexts.{Handling}
use Rattle.sv_run.specs.Effect.{Effect, answered, closing, editing, handled, joined_all, sending, telling}
use Rattle.sv_run.specs.Items.{closes_behind, continue_text}
use Rattle.sv_run.specs.Messages.{plain_response}
use Rattle.sv_session.specs.Runs as sessions
use Rattle.sv_session.specs.declared.ended_sessions.EndedSession.{EndedSession}
use Rattle.sv_wire.specs.WireFault.{fault_status}
use Rattle.sv_wire.specs.declared.wire_fault.WireFault.{WireFault}

-- the end of a context's expired sessions: the context before and after it, and the sessions that end, in order
pub record Expiry (S F L : Type 0) : Type 0 where
  pub context : ContextState S F L
  pub ended : List EndedSession
  pub after : ContextState S F L

pub data Transition (S F L : Type 0) : Type 0 where
  -- the sessions of every context that have expired at a time end
  Expiries : ℕ → List (Expiry S F L) → Transition S F L
  -- a client is asked to send the body of its message
  Continuation : Transition S F L
  -- bytes that are no message are refused, by a text
  Refusal : WireFault → List ℕ → Transition S F L
  -- the container answers a message itself, with an entry, a response and its text
  OwnAnswer : Message → Entry → Response → List ℕ → Transition S F L
  -- the context at a place handles a message, by these calls and with this text of its response
  ContextAnswer : ℕ → Handling (ContextState S F L) → List Record → List ℕ → Transition S F L
  -- the constraints of the context at a place are edited, if there is one, with this answer
  EditAnswer : Option ℕ → Edit → Result ℕ EditFault → Transition S F L
  -- the input of a connection has ended, and the connection closes
  Closing : Transition S F L

module _ {S F L : Type 0} where
  -- the notifications of an expiry: each session has ended, and its attributes are removed
  abbrev pub told_of : Expiry S F L → List Record
  told_of expiry = ends_told expiry.ended (length expiry.context.listeners)

  abbrev pub entries_of : Expiry S F L → List Entry
  entries_of expiry = map (record_entry (world_of expiry.context unnoted)) (told_of expiry)

  -- the bytes that are sent, the entries of the journal, the deed and the access of a message, the answer to an edit, and
  -- whether the connection closes
  abbrev pub effect_of : Transition S F L → Effect (ContextState S F L)
  effect_of (Expiries moment expiries) = telling (flat_map entries_of expiries)
  effect_of Continuation = sending continue_text
  effect_of (Refusal fault text) = answered None (plain_response (fault_status fault)) (Refused (causes.Wire fault)) text true
  effect_of (OwnAnswer message entry response text) = answered (Some message) response entry text (closes_behind message response)
  effect_of (ContextAnswer place handling made text) =
      handled place (caller_in handling.context handling.request.message) handling text (closes_behind handling.request.message handling.response)
  effect_of (EditAnswer place edit answer) = editing answer
  effect_of Closing = closing

  abbrev pub effect_of_all : List (Transition S F L) → Effect (ContextState S F L)
  effect_of_all transitions = joined_all (map effect_of transitions)

  -- the calls of the components of the context at a place, in order
  abbrev pub calls_at : ℕ → Transition S F L → List Record
  calls_at place (Expiries moment expiries) = option_map_or told_of (slice_get expiries place) []
  calls_at place (ContextAnswer other handling made text) = if other == place then made else []
  calls_at place Continuation = []
  calls_at place (Refusal fault text) = []
  calls_at place (OwnAnswer message entry response text) = []
  calls_at place (EditAnswer other edit answer) = []
  calls_at place Closing = []

  -- the edits of the constraints of the context at a place
  abbrev pub edits_at : ℕ → Transition S F L → List Edit
  edits_at place (EditAnswer None edit answer) = []
  edits_at place (EditAnswer (Some other) edit answer) = if other == place then edit ∷ [] else []
  edits_at place (Expiries moment expiries) = []
  edits_at place Continuation = []
  edits_at place (Refusal fault text) = []
  edits_at place (OwnAnswer message entry response text) = []
  edits_at place (ContextAnswer other handling made text) = []
  edits_at place Closing = []

  -- the same context with these constraints
  abbrev pub under : Standing → ContextState S F L → ContextState S F L
  under constraints context = record context { policy = constraints }

  -- the constraints of the context at the place become those of the edit, and nothing else changes
  pub record IsEdited (place : ℕ) (edit : Edit) (answer : Result ℕ EditFault) (before after : List (ContextState S F L)) : Type 0 where
    pub context : ContextState S F L
    pub there : slice_get before place ≡ Some context
    pub constraints : Standing
    pub outcome : GivesOutcome context.policy constraints answer (edit_outcome context.policy edit)
    pub answers : answer ≢ Err faults.NoMemory
    pub is_after : after ≡ slice_set before place (under constraints context)

  -- if there is no such context, nothing is edited
  abbrev pub IsEditedAt : Option ℕ → Edit → Result ℕ EditFault → List (ContextState S F L) → List (ContextState S F L) → Type 0
  IsEditedAt None edit answer before after = (answer ≡ Err faults.NoSuch) × (after ≡ before)
  IsEditedAt (Some place) edit answer before after = IsEdited place edit answer before after

module _ {S F L : Type 0} (moving : ComponentSteps S F L) where
  -- the sessions that have expired at the time end, and no others; each listener is notified of each end, in order, and nothing
  -- else changes
  pub record IsExpiry (moment : ℕ) (expiry : Expiry S F L) : Type 0 where
    pub ends : sessions.Expires moment expiry.context.store expiry.ended expiry.after.store
    pub moves : IsRun moving (world_of expiry.context unnoted) (told_of expiry) (world_of expiry.after unnoted)
    pub stays : IsSameDeployment expiry.context expiry.after
    pub standings : expiry.after.standings ≡ expiry.context.standings

  -- the sessions of all contexts expire
  pub record AreExpiries (moment : ℕ) (expiries : List (Expiry S F L)) (before after : List (ContextState S F L)) : Type 0 where
    pub before_are : before ≡ map (λ expiry. expiry.context) expiries
    pub after_are : after ≡ map (λ expiry. expiry.after) expiries
    pub each : AllByRecursion (IsExpiry moment) expiries

  -- the context that is at the place at that moment handles the message, and no other context changes
  pub record IsHandledAt (place : ℕ) (handling : Handling (ContextState S F L)) (made : List Record) (before after : List (ContextState S F L)) : Type 0 where
    pub there : slice_get before place ≡ Some handling.context
    pub lawful : IsLawfulMessage moving handling made
    pub is_after : after ≡ slice_set before place handling.after

  -- a transition leads the contexts from one state to the next
  abbrev pub Leads : List (ContextState S F L) → Transition S F L → List (ContextState S F L) → Type 0
  Leads before (Expiries moment expiries) after = AreExpiries moment expiries before after
  Leads before (ContextAnswer place handling made text) after = IsHandledAt place handling made before after
  Leads before (EditAnswer place edit answer) after = IsEditedAt place edit answer before after
  Leads before Continuation after = after ≡ before
  Leads before (Refusal fault text) after = after ≡ before
  Leads before (OwnAnswer message entry response text) after = after ≡ before
  Leads before Closing after = after ≡ before

  -- one transition after another
  abbrev pub LeadsThrough : List (ContextState S F L) → List (Transition S F L) → List (ContextState S F L) → Type 0
  LeadsThrough before [] after = after ≡ before
  LeadsThrough before (transition ∷ transitions) after =
      (between : List (ContextState S F L)) × Leads before transition between × LeadsThrough between transitions after
