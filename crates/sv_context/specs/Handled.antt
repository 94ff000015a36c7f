-- Handling a message in its context (Jakarta Servlet 6.0, sections 3.5, 10.9, 11.3 and 13.6.3).
use Rattle.std.specs.Prelude.{◌≡◌, ◌⊎◌, true, List, Option, None, Some}
use Rattle.sv_admission.specs.Admission.{admission, settled_in}
use Rattle.sv_exchange.specs.Asked.{Asked}
use Rattle.sv_admission.specs.declared.admission.Admission.{Admission}
use Rattle.sv_component.specs.Runs.{IsRun, Record}
use Rattle.sv_component.specs.Steps.{ComponentSteps}
use Rattle.sv_mapping.specs.Within.{path_within}
use Rattle.sv_exchange.specs.Beginning.{begun, finished}
use Rattle.sv_exchange.specs.State as exchanges
use Rattle.sv_journal.specs.Journal.{JournalState, Takes, with_entry}
use Rattle.sv_tree.specs.SiteOfDescriptor.{site_of}
use Rattle.sv_tree.specs.State.{State}
use Rattle.sv_uri.specs.declared.path.Canon.{Canon}
use Rattle.sv_message.specs.declared.response.Response.{Response}
use Rattle.sv_context.specs.Answered.{Answered}
use Rattle.sv_context.specs.State.{ContextState, IsSameDeployment, world_of}

-- The path in the context, with the query.
abbrev pub within : {S F L : Type 0} → ContextState S F L → Canon → Canon
within context canon = record canon { path = path_within context.content.context_path canon.path }

-- An exchange, with the states of the context's servlets.
abbrev pub state_in : {S F L : Type 0} → ContextState S F L → exchanges.State → State
state_in context its_exchange = record { exchange = its_exchange; standings = context.standings }

module _ {S F L : Type 0} (context : ContextState S F L) (asked : Asked) where
  -- The admission of a message, before any component is called.
  abbrev pub admitted : Admission
  admitted = admission context.content context.policy context.users asked context.store

  -- The exchange of the message at its beginning, with the sessions as the admission left them.
  abbrev pub exchange_begun : exchanges.State
  exchange_begun =
      begun asked context.content.context_path context.content.app.session.cookie admitted.session
      (settled_in context.content context.policy context.users asked context.store).store

module _ {S F L : Type 0} (moving : ComponentSteps S F L) where
  -- The calls that were made after the journal entry answer the message. There is no result if memory ran out.
  pub record IsAnswered (asked : Asked) (before : ContextState S F L) (noted : JournalState) (exchange : exchanges.State) (result : Option (Unit {0})) (after : ContextState S F L) (noted_after : JournalState) : Type 0 where
    pub made : List Record
    pub answers : Answered (site_of before.content) asked.canon (admitted before asked).event (admitted before asked).answer
        (state_in before (exchange_begun before asked)) made (state_in after exchange) result
    pub runs : IsRun moving (world_of before (with_entry (admitted before asked).entry noted)) made (world_of after noted_after)
    pub stays : IsSameDeployment before after

  -- The message is logged and answered, and the sessions are those that its exchange leaves.
  pub record GivesResponse (asked : Asked) (before : ContextState S F L) (noted : JournalState) (response : Response) (after : ContextState S F L) (noted_after : JournalState) : Type 0 where
    pub exchange : exchanges.State
    pub is_answered : IsAnswered asked before noted exchange (Some tt) after noted_after
    pub response_is : response ≡ finished exchange
    pub store : after.store ≡ exchange.store
    pub whole : noted_after.whole ≡ true

  -- Memory ran out before any component was called: only the sessions have changed, and the message may be logged.
  pub record EndsUncalled (asked : Asked) (before : ContextState S F L) (noted : JournalState) (after : ContextState S F L) (noted_after : JournalState) : Type 0 where
    pub entry : (noted_after ≡ noted) ⊎ Takes noted (admitted before asked).entry noted_after
    pub stays : after ≡ record before { store = after.store }

  -- Memory ran out, before any component was called or during the answer. The sessions are then unspecified.
  abbrev pub CutShort : Asked → ContextState S F L → JournalState → ContextState S F L → JournalState → Type 0
  CutShort asked before noted after noted_after =
      EndsUncalled asked before noted after noted_after
      ⊎ ((exchange : exchanges.State) × IsAnswered asked before noted exchange None after noted_after)

  -- The message is answered, or there is no response because memory ran out.
  abbrev pub HandlesMessage : Asked → ContextState S F L → JournalState → Option Response → ContextState S F L → JournalState → Type 0
  HandlesMessage asked before noted (Some response) after noted_after = GivesResponse asked before noted response after noted_after
  HandlesMessage asked before noted None after noted_after = CutShort asked before noted after noted_after
