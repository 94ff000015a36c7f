-- Handling a message, in parts.
use Rattle.std.proofs.Common.{◌≡◌, ℕ, true, inl, inr, List, Option, None, Some, Result, Ok, Err, IfOk, refl, sym, ◌∙◌, ap, ap₂, subst, arith}
use Rattle.http.specs.StatusCode.{IsStatusCode}
use Rattle.sv_admission.specs.Admission.{settled_in}
use Rattle.sv_exchange.specs.Asked.{Asked}
use Rattle.sv_admission.specs.declared.admission.Admission.{Admission}
use Rattle.sv_admission.specs.declared.answer.Answer.{Answer}
use Rattle.sv_component.specs.Runs.{IsRun}
use Rattle.sv_component.specs.Steps.{ComponentSteps}
use Rattle.sv_exchange.specs.Beginning.{begun, finished}
use Rattle.sv_exchange.specs.State as exchanges
use Rattle.sv_exchange.specs.declared.session_queries.HeldSession.{HeldSession}
use Rattle.sv_journal.specs.Journal.{JournalState, Takes, with_entry}
use Rattle.sv_journal.specs.declared.entry.Entry.{Entry}
use Rattle.sv_session.specs.declared.event.Event.{Event}
use Rattle.sv_live.specs.Standing.{LiveState, live_world}
use Rattle.sv_policy.specs.Compiled.{Standing}
use Rattle.sv_realm.specs.declared.account.User.{User}
use Rattle.sv_dispatch.specs.Did.{seen}
use Rattle.sv_dispatch.specs.ServedBy.{ServedBy}
use Rattle.sv_session.specs.Store.{Store}
use Rattle.sv_tree.specs.SiteOfDescriptor.{Content, site_of}
use Rattle.sv_text.specs.declared.no_memory.NoMemory.{NoMemory}
use Rattle.sv_tree.specs.Site.{Site}
use Rattle.sv_uri.specs.declared.path.Canon.{Canon}
use Rattle.sv_message.specs.declared.cookie_settings.CookieSettings.{CookieSettings}
use Rattle.sv_message.specs.declared.response.Response.{Response}
use Rattle.sv_context.specs.Answered.{Answered}
use Rattle.sv_context.specs.Handled.{GivesResponse, CutShort, HandlesMessage, IsAnswered, admitted, exchange_begun, state_in}
use Rattle.sv_context.specs.Responding.{EndsExchange, RespondsNoted}
use Rattle.sv_context.specs.State.{AreComponentsOf, ContextState, context_of, world_of}
use Rattle.sv_context.proofs.Expiries.{counts_stay, world_same}
use Rattle.sv_context.proofs.Journals.{taken}
use Rattle.sv_context.proofs.Statuses.{answered_code}

-- The status of an exchange that has just begun is a status code.
pub begun_code : (asked : Asked) (path : List ℕ) (settings : CookieSettings) (held : Option HeldSession) (store : Store) (x : exchanges.State)
    → x ≡ begun asked path settings held store → IsStatusCode x.status
begun_code asked path settings held store x began = subst (λ (e : exchanges.State). IsStatusCode e.status) (sym began) (omega arith, omega arith)

module _ {S F L : Type 0} (moving : ComponentSteps S F L) where
  -- An answer keeps the components of a content.
  answered_components : (content : Content) (site : Site) (canon : Canon) (event : Option Event) (answer : Answer) (live live' : LiveState S F L) (x x' : exchanges.State)
      (noted noted' : JournalState) (result : Option (Unit {0}))
      → ServedBy moving (Answered site canon event answer) live x noted result live' x' noted' → AreComponentsOf content live → AreComponentsOf content live'
  answered_components content site canon event answer live live' x x' noted noted' result did components = record {
    context = did.context ∙ components.context;
    counts = counts_stay content live live' components.counts did.counts;
  }

  pub components_stay : (content : Content) (site : Site) (canon : Canon) (entry : Entry) (event : Option Event) (answer : Answer) (live live' : LiveState S F L) (x x' : exchanges.State)
      (noted noted' : JournalState) (result : Option (Unit {0}))
      → RespondsNoted moving site canon entry event answer live x noted result live' x' noted' → AreComponentsOf content live → AreComponentsOf content live'
  components_stay content site canon entry event answer live live' x x' noted noted' result (inl ended) components = subst (AreComponentsOf content) (sym ended.1) components
  components_stay content site canon entry event answer live live' x x' noted noted' result (inr did) components =
      answered_components content site canon event answer live live' x x' (with_entry entry noted) noted' result did components

  -- The message was logged, and its answer begun.
  pub noted_so : (site : Site) (canon : Canon) (entry : Entry) (event : Option Event) (answer : Answer) (live live' : LiveState S F L) (x x' : exchanges.State)
      (noted between noted' : JournalState) (result : Option (Unit {0})) → Takes noted entry between → between.whole ≡ true
      → ServedBy moving (Answered site canon event answer) live x between result live' x' noted'
      → RespondsNoted moving site canon entry event answer live x noted result live' x' noted'
  noted_so site canon entry event answer live live' x x' noted between noted' result takes is_whole did =
      inr (subst (λ journal. ServedBy moving (Answered site canon event answer) live x journal result live' x' noted')
      (taken noted between entry noted.whole refl takes is_whole) did)

  -- The status of an answer is a status code.
  pub status_so : (site : Site) (canon : Canon) (entry : Entry) (event : Option Event) (answer : Answer) (live live' : LiveState S F L) (x x' : exchanges.State)
      (noted noted' : JournalState) (response : Response)
      → RespondsNoted moving site canon entry event answer live x noted (Some tt) live' x' noted' → IsStatusCode x.status → response ≡ finished x'
      → IsStatusCode response.status
  status_so site canon entry event answer live live' x x' noted noted' response (inl ended) code response_is = let no = ended.0 in cc
  status_so site canon entry event answer live live' x x' noted noted' response (inr did) code response_is =
      subst (λ (r : Response). IsStatusCode r.status) (sym response_is)
      (answered_code site canon event answer (record { exchange = x; standings = live.standings }) (record { exchange = x'; standings = live'.standings })
      did.made (Some tt) did.does_so code)

  module _ (content : Content) (policy : Standing) (users : List User) (live : LiveState S F L) (store lent : Store) (asked : Asked) (admission : Admission) where
    abbrev before : ContextState S F L
    before = context_of content policy users live store

    abbrev begun_with : exchanges.State
    begun_with = begun asked content.context_path content.app.session.cookie admission.session lent

    module _ (components : AreComponentsOf content live) (is : admission ≡ admitted before asked) (settled : lent ≡ (settled_in content policy users asked store).store)
        (x : exchanges.State) (began : x ≡ begun_with) (live' : LiveState S F L) (x' : exchanges.State) (store' : Store) (noted noted' : JournalState) where
      abbrev after : ContextState S F L
      after = context_of content policy users live' store'

      begun_so : x ≡ exchange_begun before asked
      begun_so =
          began ∙ ap₂ (λ session store. begun asked content.context_path content.app.session.cookie session store) (ap (λ a. a.session) is) settled

      answered_so : (result : Option (Unit {0}))
          → ServedBy moving (Answered (site_of content) asked.canon admission.event admission.answer) live x (with_entry admission.entry noted) result live' x' noted'
          → IsAnswered moving asked before noted x' result after noted'
      answered_so result did = record {
        made = did.made;
        answers =
            subst (λ x. Answered (site_of content) asked.canon (admitted before asked).event (admitted before asked).answer (state_in before x) did.made (state_in after x') result) begun_so
            (subst (λ (a : Admission). Answered (site_of content) asked.canon a.event a.answer (state_in before x) did.made (state_in after x') result) is did.does_so);
        runs =
            subst (λ (a : Admission). IsRun moving (world_of before (with_entry a.entry noted)) did.made (world_of after noted')) is
            (subst (λ world. IsRun moving world did.made (world_of after noted')) (world_same content policy users live store (with_entry admission.entry noted) components)
            (subst (λ world. IsRun moving (live_world live (with_entry admission.entry noted)) did.made world)
            (world_same content policy users live' store' noted'
            (answered_components content (site_of content) asked.canon admission.event admission.answer live live' x x' (with_entry admission.entry noted) noted' result did components))
            did.runs));
        stays = record {
          content = refl;
          policy = refl;
          users = refl;
          servlets = did.counts.servlets;
          filters = did.counts.filters;
          listeners = did.counts.listeners;
          initialised = did.initialised;
        };
      }

      -- Memory ran out.
      pub cut_so : RespondsNoted moving (site_of content) asked.canon admission.entry admission.event admission.answer live x noted None live' x' noted'
          → CutShort moving asked before noted after noted'
      cut_so (inl ended) = inl record {
        entry = inr (subst (λ (a : Admission). Takes noted a.entry noted') is ended.2);
        stays = ap (λ (l : LiveState S F L). context_of content policy users l store') ended.1;
      }
      cut_so (inr did) = inr (x', answered_so None did)

      -- There is a response.
      pub answers_so : (response : Response)
          → RespondsNoted moving (site_of content) asked.canon admission.entry admission.event admission.answer live x noted (Some tt) live' x' noted'
          → noted'.whole ≡ true → response ≡ finished x' → store' ≡ x'.store
          → GivesResponse moving asked before noted response after noted'
      answers_so response (inl ended) is_whole response_is stored = let no = ended.0 in cc
      answers_so response (inr did) is_whole response_is stored = record {
        exchange = x';
        is_answered = answered_so (Some tt) did;
        response_is = response_is;
        store = stored;
        whole = is_whole;
      }

    -- The exchange of the message was begun and ended.
    module _ (components : AreComponentsOf content live) (is : admission ≡ admitted before asked) (settled : lent ≡ (settled_in content policy users asked store).store)
        (x : exchanges.State) (began : x ≡ begun_with) (live' : LiveState S F L) (store' : Store) (noted noted' : JournalState) where
      pub handled_so : (response : Option Response)
          → EndsExchange moving (site_of content) asked.canon admission.entry admission.event admission.answer live x noted response live' store' noted'
          → HandlesMessage moving asked before noted response (context_of content policy users live' store') noted'
      handled_so (Some response) ended =
          answers_so components is settled x began live' ended.0 store' noted noted' response ended.1 ended.4 ended.2 ended.3
      handled_so None ended = cut_so components is settled x began live' ended.0 store' noted noted' ended.1

  -- The status of its response is a status code.
  pub ended_code : (site : Site) (canon : Canon) (entry : Entry) (event : Option Event) (answer : Answer) (live live' : LiveState S F L) (x : exchanges.State)
      (store : Store) (noted noted' : JournalState) (result : Result Response NoMemory)
      → EndsExchange moving site canon entry event answer live x noted (seen result) live' store noted' → IsStatusCode x.status
      → IfOk result (λ response. IsStatusCode response.status)
  ended_code site canon entry event answer live live' x store noted noted' (Ok response) ended code =
      status_so site canon entry event answer live live' x ended.0 noted noted' response ended.1 code ended.2
  ended_code site canon entry event answer live live' x store noted noted' (Err refusal) ended code = tt
