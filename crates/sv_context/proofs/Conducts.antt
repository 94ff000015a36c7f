-- A context as runs see it, by the effects of its calls.
use Rattle.std.proofs.Common.{◌≡◌, ℕ, true, inl, inr, List, [], ◌∷◌, Option, None, Some, Result, Ok, Err, refl, ap, ◌∙◌, length}
use Rattle.std.specs.Prelude.{IfErr, IfOk}
use Rattle.sv_exchange.specs.Asked.{Asked}
use Rattle.sv_component.proofs.Running.{runs_grown, runs_join}
use Rattle.sv_component.specs.Runs.{IsRun}
use Rattle.sv_component.specs.Steps.{ComponentSteps}
use Rattle.sv_dispatch.specs.Did.{seen}
use Rattle.sv_exchange.specs.State as exchanges
use Rattle.sv_journal.specs.Journal.{JournalState, new_journal, with_entry}
use Rattle.sv_journal.specs.declared.entry.Entry.{Entry}
use Rattle.sv_run.specs.Contexts.{Request}
use Rattle.sv_run.specs.Effect.{noting, whole}
use Rattle.sv_tree.specs.SiteOfDescriptor.{site_of}
use Rattle.sv_text.specs.declared.no_memory.NoMemory.{NoMemory}
use Rattle.sv_message.specs.declared.response.Response.{Response}
use Rattle.sv_context.specs.Conduct.{IsMoved, asked_of, conduct, unnoted}
use Rattle.sv_context.specs.Expiry.{Expires, ends_told}
use Rattle.sv_context.specs.Handled.{GivesResponse, CutShort, HandlesMessage, IsAnswered, admitted, exchange_begun, state_in}
use Rattle.sv_context.specs.State.{ContextState, world_of}
use Rattle.sv_context.proofs.Retirings.{answered_retires, ends_heard, heard_retires}
use Rattle.sv_context.specs.Retirement.{retires_none}
use Rattle.sv_context.proofs.Journals.{NotesSo, noting_more, runs_note, runs_unnoted}

module _ {S F L : Type 0} (moving : ComponentSteps S F L) where
  -- An answer moves the components.
  answered_moves : (asked : Asked) (before after : ContextState S F L) (noted noted' : JournalState) (exchange : exchanges.State) (result : Option (Unit {0}))
      → IsAnswered moving asked before noted exchange result after noted' → IsMoved moving before after
  answered_moves asked before after noted noted' exchange result did = record {
    made = did.made;
    runs = runs_unnoted moving (world_of before (with_entry (admitted before asked).entry noted)) did.made (world_of after noted') did.runs;
    retires = answered_retires (site_of before.content) asked.canon (admitted before asked).event (admitted before asked).answer
        (state_in before (exchange_begun before asked)) (state_in after exchange) did.made result did.answers;
    stays = did.stays;
  }

  uncalled_moves : (before after : ContextState S F L) → after ≡ record before { store = after.store } → IsMoved moving before after
  unfolding IsRun
  uncalled_moves before after same = record {
    made = [];
    runs = ap (λ context. world_of context unnoted) same;
    retires = retires_none before.standings after.standings (ap (λ context. context.standings) same);
    stays = record {
      content = ap (λ context. context.content) same;
      policy = ap (λ context. context.policy) same;
      users = ap (λ context. context.users) same;
      servlets = ap (λ context. length context.servlets) same;
      filters = ap (λ context. length context.filters) same;
      listeners = ap (λ context. length context.listeners) same;
      initialised = ap (λ context. context.initialised) same;
    };
  }

  pub handling_moves : (asked : Asked) (before after : ContextState S F L) (noted noted' : JournalState) (response : Option Response)
      → HandlesMessage moving asked before noted response after noted' → IsMoved moving before after
  handling_moves asked before after noted noted' (Some response) did =
      answered_moves asked before after noted noted' did.exchange (Some tt) did.is_answered
  handling_moves asked before after noted noted' None (inl did) = uncalled_moves before after did.stays
  handling_moves asked before after noted noted' None (inr did) = answered_moves asked before after noted noted' did.0 None did.1

  -- The entries that an answer logs, and the same answer from a new journal on.
  pub handling_notes : (asked : Asked) (before after : ContextState S F L) (noted noted' : JournalState) (response : Response)
      → GivesResponse moving asked before noted response after noted'
      → (entries : List Entry) × GivesResponse moving asked before new_journal response after (whole entries) × (noted' ≡ noting entries noted)
  handling_notes asked before after noted noted' response did =
      let entry = (admitted before asked).entry in
      let notes : NotesSo moving (world_of before (with_entry entry noted)) did.is_answered.made (world_of after noted') =
      runs_note moving (world_of before (with_entry entry noted)) did.is_answered.made (world_of after noted') did.is_answered.runs in (
        entry ∷ notes.entries,
        record {
          exchange = did.exchange;
          is_answered = record {
            made = did.is_answered.made;
            answers = did.is_answered.answers;
            runs = notes.elsewhere (with_entry entry new_journal) refl;
            stays = did.is_answered.stays;
          };
          response_is = did.response_is;
          store = did.store;
          whole = refl;
        },
        notes.journal did.whole ∙ noting_more entry notes.entries noted,
      )

  -- An expiry moves the components.
  expiry_runs : (moment : ℕ) (before after : ContextState S F L) (noted noted' : JournalState) (did : Expires moving moment before noted after noted')
      → IsRun moving (world_of before noted) (ends_told did.ended (length before.listeners)) (world_of after noted')
  expiry_runs moment before after noted noted' did =
      runs_grown moving (world_of before noted) (world_of after noted') (ends_told did.ended (length before.listeners)) did.told

  pub expiry_moves : (moment : ℕ) (before after : ContextState S F L) (noted noted' : JournalState) → Expires moving moment before noted after noted' → IsMoved moving before after
  expiry_moves moment before after noted noted' did = record {
    made = ends_told did.ended (length before.listeners);
    runs = runs_unnoted moving (world_of before noted) (ends_told did.ended (length before.listeners)) (world_of after noted') (expiry_runs moment before after noted noted' did);
    retires = heard_retires before.standings after.standings (ends_told did.ended (length before.listeners)) (ends_heard did.ended (length before.listeners)) did.standings;
    stays = did.stays;
  }

  -- The entries that an expiry logs, and the same expiry from a new journal on.
  pub expiry_notes : (moment : ℕ) (before after : ContextState S F L) (noted noted' : JournalState) → Expires moving moment before noted after noted'
      → (told : List Entry) × Expires moving moment before new_journal after (whole told) × (noted'.whole ≡ true → noted' ≡ noting told noted)
  expiry_notes moment before after noted noted' did =
      let made = ends_told did.ended (length before.listeners) in
      let notes : NotesSo moving (world_of before noted) made (world_of after noted') =
      runs_note moving (world_of before noted) made (world_of after noted') (expiry_runs moment before after noted noted' did) in (
        notes.entries,
        record {
          ended = did.ended;
          ends = did.ends;
          told = λ from done ran. runs_join moving from (world_of before new_journal) (world_of after (whole notes.entries)) done made ran (notes.elsewhere new_journal refl);
          stays = did.stays;
          standings = did.standings;
        },
        notes.journal,
      )

  -- An interrupted request, and the same request from a new journal on.
  cut_notes : (asked : Asked) (before after : ContextState S F L) (noted noted' : JournalState) → CutShort moving asked before noted after noted'
      → (entries : List Entry) × CutShort moving asked before new_journal after (whole entries)
  cut_notes asked before after noted noted' (inl ended) = ([], inl record { entry = inl refl; stays = ended.stays })
  cut_notes asked before after noted noted' (inr did) =
      let entry = (admitted before asked).entry in
      let notes : NotesSo moving (world_of before (with_entry entry noted)) did.1.made (world_of after noted') =
      runs_note moving (world_of before (with_entry entry noted)) did.1.made (world_of after noted') did.1.runs in (
        entry ∷ notes.entries,
        inr (
          did.0,
          record {
            made = did.1.made;
            answers = did.1.answers;
            runs = notes.elsewhere (with_entry entry new_journal) refl;
            stays = did.1.stays;
          },
        ),
      )

  pub hosted_cuts : (request : Request) (before after : ContextState S F L) (noted noted' : JournalState) (result : Result Response NoMemory)
      → HandlesMessage moving (asked_of before request) before noted (seen result) after noted'
      → IfErr result (λ _. (conduct moving).CutsShort before request after)
  hosted_cuts request before after noted noted' (Ok response) did = tt
  hosted_cuts request before after noted noted' (Err refusal) did = cut_notes (asked_of before request) before after noted noted' did

  -- The effect of a request.
  pub hosted_handles : (request : Request) (before after : ContextState S F L) (noted noted' : JournalState) (result : Result Response NoMemory)
      → HandlesMessage moving (asked_of before request) before noted (seen result) after noted'
      → IfOk result (λ response. (entries : List Entry)
      × (conduct moving).Handles (record { context = before; request = request; entries = entries; response = response; after = after })
      × (noted' ≡ noting entries noted))
  hosted_handles request before after noted noted' (Ok response) did = handling_notes (asked_of before request) before after noted noted' response did
  hosted_handles request before after noted noted' (Err refusal) did = tt
