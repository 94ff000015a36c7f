-- A lawful run is a run: the record says all that the definition of a run says.
use Rattle.std.proofs.Common.{◌≡◌, ℕ, Bool, true, false, List, [], ◌∷◌, ◌++◌, map, Option, None, Some, Result, Ok, Err, refl, sym, ap, ◌∙◌, subst, bytes_eq, position, nat_le, cond}
use Rattle.std.specs.Bool.{MatchBool}
use Rattle.std.specs.List.{AllByRecursion, flat_map}
use Rattle.sv_component.proofs.Running.{runs_join}
use Rattle.sv_component.specs.Laws.{RunsAreJournalled}
use Rattle.sv_component.specs.Runs.{IsRun, Record, record_entry}
use Rattle.sv_component.specs.Steps.{ComponentSteps}
use Rattle.sv_context.proofs.Journals.{runs_note}
use Rattle.sv_context.specs.Conduct.{asked_of, caller_in, conduct, unnoted}
use Rattle.sv_context.specs.Handled.{admitted}
use Rattle.sv_context.specs.State.{ContextState, world_of}
use Rattle.sv_context.specs.Theory.{theory}
use Rattle.sv_headline.proofs.Hearing.{done_in}
use Rattle.sv_headline.proofs.Leading.{leads_paths, path_of, same_destination}
use Rattle.sv_headline.proofs.Messages.{gained}
use Rattle.sv_headline.specs.Events.{Answers, AreOf, AreTransitionsOf, Brings, IsAnsweredBy, IsLawfulEvent, IsOf, IsRefusedEvent}
use Rattle.sv_headline.specs.Message.{IsLawfulMessage}
use Rattle.sv_headline.specs.Record.{EveryLawfulRunIsARun}
use Rattle.sv_headline.specs.Transitions.{AreExpiries, Expiries, Expiry, IsEditedAt, IsExpiry, Leads, LeadsThrough, Transition, effect_of, effect_of_all, entries_of, told_of, under}
use Rattle.sv_journal.specs.Journal.{JournalState, new_journal, with_entry}
use Rattle.sv_journal.specs.declared.entry.Entry.{Entry}
use Rattle.sv_login.specs.OutcomeLaws.{JustOneCaseHolds}
use Rattle.sv_message.specs.declared.message.Message.{Message as MessageRecord}
use Rattle.sv_message.specs.declared.message.Target.{Target}
use Rattle.sv_policy.specs.declared.edit.Edit.{Edit}
use Rattle.sv_policy.specs.declared.edit_fault.EditFault.{EditFault}
use Rattle.sv_run.specs.Connections.{Connections}
use Rattle.sv_run.specs.Contexts.{Handling, Request}
use Rattle.sv_run.specs.Editing.{EditsIn, place_with}
use Rattle.sv_run.specs.Effect.{Effect, handled, noting, whole}
use Rattle.sv_run.specs.Events.{Accepts, Edited, Ended, ExpiresAll, Happening, Happens, Lost, Opened, Piece, Steps, Tick, fault_of, moment_after, opening_fault, unknown_fault}
use Rattle.sv_run.specs.Items.{Responds, Takes, TakesItem, TakesNone, closes_behind}
use Rattle.sv_run.specs.Messages.{Destination, Itself, Within, destination}
use Rattle.sv_run.specs.Runs.{Answer, Run}
use Rattle.sv_run.specs.State.{State, World, settled_at}
use Rattle.sv_run.specs.State as states
use Rattle.sv_run.specs.declared.limits.TheConstants.{MAX_CONNECTIONS}
use Rattle.sv_run.specs.declared.step_fault.StepFault.{StepFault}
use Rattle.sv_run.specs.declared.step_fault.StepFault.TheVariants.{Stopped, BadConnection, TooManyConnections, NoMemory}
use Rattle.sv_wire.specs.Inbox.{Held}
use Rattle.sv_wire.specs.declared.item.Item.{Item}
use Rattle.sv_wire.specs.declared.item.Item.TheVariants.{Continue, Message, Refuse}

module _ {S F L : Type 0} (moving : ComponentSteps S F L) (journalled : RunsAreJournalled moving) (one_case : JustOneCaseHolds) where
  -- ---- messages and expiries

  -- a run that nobody notes is also a run that a whole journal notes
  noted_so : (context after : ContextState S F L) (noted : JournalState) (made : List Record) (entries : List Entry) → noted.whole ≡ true
      → noted.entries ++ map (record_entry (world_of context unnoted)) made ≡ entries
      → IsRun moving (world_of context unnoted) made (world_of after unnoted) → IsRun moving (world_of context noted) made (world_of after (whole entries))
  noted_so context after noted made entries is_whole are runs =
      let notes = runs_note moving (world_of context unnoted) made (world_of after unnoted) runs in
      let then = notes.elsewhere noted is_whole in
      let same : (noting notes.entries noted).entries ≡ entries =
      gained moving journalled context after noted (noting notes.entries noted) made then is_whole ∙ are in
      subst (λ journal. IsRun moving (world_of context noted) made (world_of after journal)) (λ i. record { entries = same i; whole = is_whole i }) then

  handles_of : (handling : Handling (ContextState S F L)) (made : List Record) → IsLawfulMessage moving handling made → (conduct moving).Handles handling
  handles_of handling made lawful =
      let done = done_in moving one_case handling made lawful in
      let entry = (admitted handling.context (asked_of handling.context handling.request)).entry in
      record {
        exchange = done.exchange;
        is_answered = record {
          made = made;
          answers = done.answers;
          runs = noted_so handling.context handling.after (with_entry entry new_journal) made handling.entries refl (sym done.noted) done.moves;
          stays = done.stays;
        };
        response_is = done.response;
        store = done.sessions;
        whole = refl;
      }

  expires_of : (moment : ℕ) (expiry : Expiry S F L) → IsExpiry moving moment expiry
      → (conduct moving).Expires expiry.context moment (entries_of expiry) expiry.after
  expires_of moment expiry is =
      let runs = noted_so expiry.context expiry.after new_journal (told_of expiry) (entries_of expiry) refl refl is.moves in
      record {
        ended = expiry.ended;
        ends = is.ends;
        told = λ from done ran.
            runs_join moving from (world_of expiry.context new_journal) (world_of expiry.after (whole (entries_of expiry))) done (told_of expiry) ran runs;
        stays = is.stays;
        standings = is.standings;
      }

  all_expire : (moment : ℕ) (expiries : List (Expiry S F L)) → AllByRecursion (IsExpiry moving moment) expiries
      → ExpiresAll (conduct moving) (map (λ (expiry : Expiry S F L). expiry.context) expiries) moment (flat_map entries_of expiries)
      (map (λ (expiry : Expiry S F L). expiry.after) expiries)
  all_expire moment [] each = (refl, refl)
  all_expire moment (expiry ∷ expiries) each = (
    entries_of expiry,
    flat_map entries_of expiries,
    expiry.after,
    map (λ (expiry : Expiry S F L). expiry.after) expiries,
    expires_of moment expiry each.0,
    all_expire moment expiries each.1,
    refl,
    refl,
  )

  expires_all : (moment : ℕ) (expiries : List (Expiry S F L)) (before after : List (ContextState S F L)) → AreExpiries moving moment expiries before after
      → ExpiresAll (conduct moving) before moment (flat_map entries_of expiries) after
  expires_all moment expiries before after are =
      subst (λ its. ExpiresAll (conduct moving) its moment (flat_map entries_of expiries) after) (sym are.before_are)
      (subst (ExpiresAll (conduct moving) (map (λ (expiry : Expiry S F L). expiry.context) expiries) moment (flat_map entries_of expiries)) (sym are.after_are)
      (all_expire moment expiries are.each))

  module _ {Words : Type 0} (draws : Words → ℕ × ℕ → Words → Type 0) where
    abbrev Contexts : Type 0
    Contexts = List (ContextState S F L)

    abbrev Whole : Type 0
    Whole = State (ContextState S F L) Words

    abbrev of : Contexts → Words → World (ContextState S F L) Words
    of contexts words = states.world_of contexts words

    -- ---- items

    module _ (goes_to : Target → Destination) (moment : ℕ) where
      responds : (to : Destination) (message : MessageRecord) (pair : ℕ × ℕ) (transition : Transition S F L) (before after : Contexts)
          → Answers draws goes_to moment to message pair transition → Leads moving before transition after
          → Responds (theory moving draws) moment to message pair before (effect_of transition) after
      responds (Itself entry response) message pair transition before after answers leads = (
        answers.0,
        answers.1,
        ap effect_of answers.2,
        subst (λ its. Leads moving before its after) answers.2 leads,
      )
      responds (Within place canon) message pair transition before after answers leads =
          let its = subst (λ its. Leads moving before its after) answers.5 leads in (
            answers.0,
            answers.2,
            answers.3,
            record { there = its.there; handles = handles_of answers.0 answers.1 its.lawful; is_after = its.is_after },
            answers.4,
            ap effect_of answers.5
                ∙ ap (λ (request : Request). handled place (caller_in answers.0.context request.message) answers.0 answers.2 (closes_behind request.message answers.0.response)) answers.3,
          )

      item_takes : (item : Item) (transition : Transition S F L) (before after : Contexts) (words words_after : Words)
          → ((target : Target) → goes_to target ≡ destination (theory moving draws) before target)
          → IsOf draws goes_to moment item words transition words_after → Leads moving before transition after
          → TakesItem (theory moving draws) moment item (of before words) (effect_of transition) (of after words_after)
      item_takes Continue transition before after words words_after goes is leads =
          let same = subst (λ its. Leads moving before its after) is.0 leads in (ap effect_of is.0, (λ i. of (same i) (is.1 i)))
      item_takes (Refuse fault) transition before after words words_after goes is leads =
          let same = subst (λ its. Leads moving before its after) is.2 leads in (is.0, is.1, ap effect_of is.2, (λ i. of (same i) (is.3 i)))
      item_takes (Message message) transition before after words words_after goes is leads = (
        is.0,
        is.1,
        subst (λ to. Responds (theory moving draws) moment to message is.0 before (effect_of transition) after) (goes message.target)
            (responds (goes_to message.target) message is.0 transition before after is.2 leads),
      )

      none_taken : (transitions : List (Transition S F L)) (before after : Contexts) (words words_after : Words) → transitions ≡ [] → words_after ≡ words
          → LeadsThrough moving before transitions after → TakesNone (theory moving draws) moment (of before words) (effect_of_all transitions) (of after words_after)
      none_taken transitions before after words words_after none same leads =
          let contexts = subst (λ its. LeadsThrough moving before its after) none leads in (ap effect_of_all none, (λ i. of (contexts i) (same i)))

      behind : (A B C D : Type 0) (t : Bool) → (A → C) → (B → D) → MatchBool t A B → MatchBool t C D
      behind A B C D true f g given = f given
      behind A B C D false f g given = g given

      takes_of : (items : List Item) (transitions : List (Transition S F L)) (before after : Contexts) (words words_after : Words)
          → ((target : Target) → goes_to target ≡ destination (theory moving draws) before target)
          → AreOf draws goes_to moment items words transitions words_after → LeadsThrough moving before transitions after
          → Takes (theory moving draws) moment items (of before words) (effect_of_all transitions) (of after words_after)
      takes_of [] transitions before after words words_after goes are leads = none_taken transitions before after words words_after are.0 are.1 leads
      takes_of (item ∷ items) transitions before after words words_after goes are leads =
          let through = subst (λ its. LeadsThrough moving before its after) are.3 leads in
          let still : (target : Target) → goes_to target ≡ destination (theory moving draws) through.0 target =
          λ target. goes target ∙ sym (same_destination (theory moving draws) before through.0 (leads_paths moving before through.0 are.0 through.1) target) in (
            of through.0 are.2,
            effect_of are.0,
            effect_of_all are.1,
            item_takes item are.0 before through.0 words are.2 goes are.4 through.1,
            behind _ _ _ _ (effect_of are.0).closes (λ none. none_taken are.1 through.0 after are.2 words_after none.0 none.1 through.2)
                (λ rest. takes_of items are.1 through.0 after are.2 words_after still rest through.2) are.5,
            ap effect_of_all are.3,
          )

    -- ---- events

    edits_of : (place : Option ℕ) (edit : Edit) (answer : Result ℕ EditFault) (before after : Contexts) → IsEditedAt place edit answer before after
        → EditsIn (theory moving draws) place before edit answer after
    edits_of None edit answer before after is = is
    edits_of (Some place) edit answer before after is = record {
      context = is.context;
      there = is.there;
      edited = under is.constraints is.context;
      edits = record { outcome = is.outcome; stays = refl };
      answers = is.answers;
      is_after = is.is_after;
    }

    state_is : (after : Whole) (stopped : Bool) (contexts : Contexts) (words : Words) (moment : ℕ) (connections : Connections)
        → after.stopped ≡ stopped → after.world.contexts ≡ contexts → after.world.words ≡ words → after.moment ≡ moment → after.connections ≡ connections
        → after ≡ record { stopped = stopped; world = of contexts words; moment = moment; connections = connections }
    state_is after stopped contexts words moment connections one two three four five =
        λ i. record { stopped = one i; world = of (two i) (three i); moment = four i; connections = five i }

    module _ (before after : Whole) (contexts : Contexts) (transitions : List (Transition S F L)) (goes_on : after.stopped ≡ before.stopped)
        (same : map path_of contexts ≡ map path_of before.world.contexts) (leads : LeadsThrough moving contexts transitions after.world.contexts) where
      none_led : transitions ≡ [] → after.world.contexts ≡ contexts
      none_led none = subst (λ its. LeadsThrough moving contexts its after.world.contexts) none leads

      happens_of : (happening : Happening) → after.moment ≡ moment_after before.moment happening → Brings moving draws before happening transitions after
          → Happens (theory moving draws) (settled_at (moment_after before.moment happening) contexts before) happening (effect_of_all transitions) after
      happens_of (Opened number) time brings =
          (ap effect_of_all brings.0, state_is after _ _ _ _ _ goes_on (none_led brings.0) brings.2 time brings.1)
      happens_of (Piece number bytes moment) time brings =
          let now = moment_after before.moment (Piece number bytes moment) in
          let goes = destination (theory moving draws) before.world.contexts in
          record {
            held = brings.held;
            holds = brings.holds;
            items = brings.items;
            left = brings.left;
            feeds = brings.feeds;
            world = after.world;
            takes = takes_of goes now brings.items transitions contexts after.world.contexts before.world.words after.world.words
                (λ target. sym (same_destination (theory moving draws) before.world.contexts contexts same target))
                (subst (λ when. AreOf draws goes when brings.items before.world.words transitions after.world.words) time brings.are) leads;
            is_after = state_is after _ _ _ _ _ goes_on refl refl time brings.connections;
          }
      happens_of (Ended number) time brings =
          let through = subst (λ its. LeadsThrough moving contexts its after.world.contexts) brings.0 leads in
          (ap effect_of_all brings.0, state_is after _ _ _ _ _ goes_on (through.2 ∙ through.1) brings.2 time brings.1)
      happens_of (Lost number) time brings =
          (ap effect_of_all brings.0, state_is after _ _ _ _ _ goes_on (none_led brings.0) brings.2 time brings.1)
      happens_of (Tick moment) time brings =
          (ap effect_of_all brings.0, state_is after _ _ _ _ _ goes_on (none_led brings.0) brings.2 time brings.1)
      happens_of (Edited path edit) time brings =
          let through = subst (λ its. LeadsThrough moving contexts its after.world.contexts) brings.1.0 leads in
          let place : place_with (theory moving draws) before.world.contexts path ≡ place_with (theory moving draws) contexts path =
          sym (ap (λ paths. position (bytes_eq path) paths) same) in
          record {
            answer = brings.0;
            contexts = through.0;
            edits =
                subst (λ at. EditsIn (theory moving draws) at contexts edit brings.0 through.0) place
                (edits_of (place_with (theory moving draws) before.world.contexts path) edit brings.0 contexts through.0 through.1);
            brings = ap effect_of_all brings.1.0;
            is_after = state_is after _ _ _ _ _ goes_on through.2 brings.1.2 time brings.1.1;
          }

    accepts_of : (before after : Whole) (happening : Happening) (effect : Effect (ContextState S F L)) (transitions : List (Transition S F L))
        → IsLawfulEvent moving draws before happening effect transitions after → Accepts (theory moving draws) before happening effect after
    accepts_of before after happening effect transitions lawful =
        let through = subst (λ its. LeadsThrough moving before.world.contexts its after.world.contexts) lawful.are lawful.leads in
        let paths = leads_paths moving before.world.contexts through.0 (Expiries after.moment lawful.expiries) through.1 in
        record {
          runs = lawful.runs;
          no_fault = lawful.no_fault;
          told = flat_map entries_of lawful.expiries;
          contexts = through.0;
          expires =
              subst (λ when. ExpiresAll (conduct moving) before.world.contexts when (flat_map entries_of lawful.expiries) through.0) lawful.time
              (expires_all after.moment lawful.expiries before.world.contexts through.0 through.1);
          brings = effect_of_all lawful.brought;
          happens = happens_of before after through.0 lawful.brought (lawful.goes_on ∙ sym lawful.runs) paths through.2 happening lawful.time lawful.brings;
          is_joined = lawful.effect_is ∙ ap effect_of_all lawful.are;
        }

    -- ---- runs

    -- the fault of an event is that its connection is or is not known, or that there are too many
    abbrev IsOfEvents : Option StepFault → Type 0
    IsOfEvents None = Unit {0}
    IsOfEvents (Some BadConnection) = Unit {0}
    IsOfEvents (Some TooManyConnections) = Unit {0}
    IsOfEvents (Some Stopped) = ⊥
    IsOfEvents (Some NoMemory) = ⊥

    known_fault : (held : Option Held) → IsOfEvents (unknown_fault held)
    known_fault None = tt
    known_fault (Some held) = tt

    many_fault : (many : Bool) → IsOfEvents (cond many (Some TooManyConnections) None)
    many_fault true = tt
    many_fault false = tt

    opened_fault : (held : Option Held) (known : ℕ) → IsOfEvents (opening_fault held known)
    opened_fault None known = many_fault (nat_le MAX_CONNECTIONS known)
    opened_fault (Some held) known = tt

    event_fault : (connections : Connections) (happening : Happening) → IsOfEvents (fault_of connections happening)
    event_fault connections (Opened number) = opened_fault (connections.held number) connections.known
    event_fault connections (Piece number bytes moment) = known_fault (connections.held number)
    event_fault connections (Ended number) = known_fault (connections.held number)
    event_fault connections (Lost number) = known_fault (connections.held number)
    event_fault connections (Tick moment) = tt
    event_fault connections (Edited path edit) = tt

    refuses_of : (before after : Whole) (happening : Happening) (fault : StepFault) (transitions : List (Transition S F L))
        → IsRefusedEvent moving draws before happening fault transitions after → Steps (theory moving draws) before happening (Err fault) after
    refuses_of before after happening BadConnection transitions is = record { runs = is.runs; is_fault = is.is_fault; stays = is.stays }
    refuses_of before after happening TooManyConnections transitions is = record { runs = is.runs; is_fault = is.is_fault; stays = is.stays }
    refuses_of before after happening Stopped transitions is = absurd (subst IsOfEvents is.is_fault (event_fault before.connections happening))
    refuses_of before after happening NoMemory transitions is = absurd (subst IsOfEvents is.is_fault (event_fault before.connections happening))

    steps_of : (before after : Whole) (happening : Happening) (answer : Answer (ContextState S F L)) (transitions : List (Transition S F L))
        → IsAnsweredBy moving draws before happening answer transitions after → Steps (theory moving draws) before happening answer after
    steps_of before after happening (Ok effect) transitions is = accepts_of before after happening effect transitions is
    steps_of before after happening (Err fault) transitions is = refuses_of before after happening fault transitions is

    run_of : (before after : Whole) (happenings : List Happening) (answers : List (Answer (ContextState S F L))) (transitions : List (Transition S F L))
        → AreTransitionsOf moving draws before happenings answers transitions after → Run (theory moving draws) before happenings answers after
    run_of before after [] [] transitions are = are.1
    run_of before after [] (answer ∷ answers) transitions are = absurd are
    run_of before after (happening ∷ happenings) [] transitions are = absurd are
    run_of before after (happening ∷ happenings) (answer ∷ answers) transitions are =
        (are.2, steps_of before are.2 happening answer are.0 are.3, run_of are.2 after happenings answers are.1 are.4)

    pub every_lawful_run_is_a_run : EveryLawfulRunIsARun moving draws
    every_lawful_run_is_a_run before after happenings answers lawful = run_of before after happenings answers lawful.transitions lawful.are
