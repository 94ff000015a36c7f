-- A context as runs of a container see it (Jakarta Servlet 6.0, sections 2.3, 3.5, 7.5 and 13.6.3).
use Rattle.std.specs.Prelude.{ℕ, List, Option, None, Some, option_and_then}
use Rattle.sv_exchange.specs.Asked.{Asked, asked_by}
use Rattle.sv_admission.specs.Judged.{post_in}
use Rattle.sv_admission.specs.Laws.{message_findings}
use Rattle.sv_component.specs.Runs.{IsRun, Record}
use Rattle.sv_component.specs.Steps.{ComponentSteps}
use Rattle.sv_journal.specs.Journal.{JournalState, broken, new_journal}
use Rattle.sv_journal.specs.declared.entry.Entry.{Entry}
use Rattle.sv_login.specs.Held.{held}
use Rattle.sv_login.specs.Post.{user_sent}
use Rattle.sv_message.specs.declared.message.Message.{Message}
use Rattle.sv_run.specs.Contexts.{Conduct, Request}
use Rattle.sv_run.specs.Effect as effect
use Rattle.sv_session.specs.Calls as sessions
use Rattle.sv_context.specs.Editing as editing
use Rattle.sv_context.specs.Expiry as expiry
use Rattle.sv_context.specs.Handled as handled
use Rattle.sv_context.specs.Retiring.{Retires}
use Rattle.sv_context.specs.State.{ContextState, IsSameDeployment, world_of}

-- A request as its context receives it.
abbrev pub asked_of : {S F L : Type 0} → ContextState S F L → Request → Asked
asked_of context request = asked_by request.message (handled.within context request.canon) request.moment request.words

-- The number of the user who is logged in to the session that a message's cookies name, if any.
abbrev pub caller_in : {S F L : Type 0} → ContextState S F L → Message → Option ℕ
caller_in context message =
    option_and_then (λ number. sessions.caller_of number context.store) (held context.content.app.session.cookie.name message.fields context.store)

-- A journal that records nothing.
abbrev pub unnoted : JournalState
unnoted = broken new_journal

module _ {S F L : Type 0} (moving : ComponentSteps S F L) where
  -- Some calls move the components, whatever the journal records. They only destroy servlets that are gone afterwards.
  pub record IsMoved (before after : ContextState S F L) : Type 0 where
    pub made : List Record
    pub runs : IsRun moving (world_of before unnoted) made (world_of after unnoted)
    pub retires : Retires before.standings made after.standings
    pub stays : IsSameDeployment before after

  -- The caller of a request is the user whose name and password are in its login fields. Entries are those that a new
  -- journal gains; the entries of an interrupted request are lost.
  abbrev pub conduct : Conduct (ContextState S F L)
  conduct = record {
    sessions_of = λ context. context.store;
    policy_of = λ context. context.policy;
    findings = λ context request. message_findings context.content context.policy context.users (asked_of context request) context.store;
    caller_of = caller_in;
    caller_sent = λ context request. user_sent context.users (post_in (asked_of context request));
    Handles = λ handling. handled.HandlesMessage moving
        (asked_of handling.context handling.request) handling.context new_journal (Some handling.response) handling.after (effect.whole handling.entries);
    CutsShort = λ context request after. (entries : List Entry)
        × handled.HandlesMessage moving (asked_of context request) context new_journal None after (effect.whole entries);
    Expires = λ context moment told after. expiry.Expires moving moment context new_journal after (effect.whole told);
    Edits = λ before edit answer after. editing.Edits before edit answer after;
    Moves = IsMoved;
  }
