-- Runs in which a message or an event is altered are not lawful.
use Rattle.std.proofs.Common.{◌≡◌, ℕ, List, [], ◌∷◌, ◌++◌, length, map, Option, None, Some, Result, Ok, Err, refl, sym, ap, ◌∙◌, subst, arith, slice_get, slice_set, append_assoc}
use Rattle.std.specs.List.{AllByRecursion, flat_map}
use Rattle.sv_component.specs.Laws.{RunsAreJournalled, RunsMoveComponents}
use Rattle.sv_component.specs.Runs.{Record}
use Rattle.sv_component.specs.Steps.{ComponentSteps}
use Rattle.sv_context.specs.State.{ContextState}
use Rattle.sv_context.specs.Theory.{theory}
use Rattle.sv_headline.proofs.AnsweringInOrder.{in_order}
use Rattle.sv_headline.proofs.Leading.{same_destination, some_is, stands_after, through_all, through_parts}
use Rattle.sv_headline.proofs.Recording.{lawful_by}
use Rattle.sv_headline.proofs.Refuting as messages
use Rattle.sv_headline.proofs.RefutingEvents as events
use Rattle.sv_headline.proofs.Repeating.{AgreesWith, answers_there, begins_there, completes_there, events_once, through_paths}
use Rattle.sv_headline.proofs.RepeatingExpiries.{events_seen, expired_alike, seen}
use Rattle.sv_headline.specs.AnswersInOrder.{AreAnswersTo}
use Rattle.sv_headline.specs.Events.{AreTransitionsOf, IsAnsweredBy, IsLawfulEvent}
use Rattle.sv_headline.specs.Message.{IsLawfulMessage}
use Rattle.sv_headline.specs.Record.{IsLawfulRun}
use Rattle.sv_headline.specs.Transitions.{Closing, ContextAnswer, Continuation, EditAnswer, Expiries, Expiry, IsExpiry, Leads, LeadsThrough, OwnAnswer, Refusal, Transition, entries_of, under}
use Rattle.sv_headline.specs.Unlawful.{calls_from, calls_with}
use Rattle.sv_headline.specs.UnlawfulRuns.{AlteredEventsAreInNoRun, AlteredMessagesAreInNoRun, ContinuesInNoRun, IsInNoRun, RunsAreLawfulInParts}
use Rattle.sv_journal.specs.declared.entry.Entry.TheVariants as entries
use Rattle.sv_journal.specs.declared.refusal_cause.RefusalCause.TheVariants as causes
use Rattle.sv_login.specs.OutcomeLaws.{JustOneCaseHolds}
use Rattle.sv_message.specs.declared.message.Target.{Target}
use Rattle.sv_policy.specs.Edits.{edit_outcome, standing_after}
use Rattle.sv_policy.specs.declared.edit.Edit.{Edit}
use Rattle.sv_policy.specs.declared.edit_fault.EditFault.{EditFault}
use Rattle.sv_run.specs.Contexts.{Handling}
use Rattle.sv_run.specs.Effect.{Answered, Effect}
use Rattle.sv_run.specs.Events.{Happening, Piece, Tick, moment_after}
use Rattle.sv_run.specs.Items.{IsAnswerTo}
use Rattle.sv_run.specs.Laws.{FeedingsMayBeCut}
use Rattle.sv_run.specs.Messages.{destination}
use Rattle.sv_run.specs.Runs.{Answer}
use Rattle.sv_run.specs.State.{State}
use Rattle.sv_wire.specs.Laws.{ReadingsAreUnique}

module _ {S F L : Type 0} (moving : ComponentSteps S F L) where
  abbrev Contexts : Type 0
  Contexts = List (ContextState S F L)

  -- ---- transitions lead to one state

  edited_once : (place : Option ℕ) (edit : Edit) (answer : Result ℕ EditFault) (before after its_after : Contexts)
      → Leads moving before (EditAnswer place edit answer) after → Leads moving before (EditAnswer place edit answer) its_after → after ≡ its_after
  edited_once None edit answer before after its_after one other = one.1 ∙ sym other.1
  edited_once (Some place) edit answer before after its_after one other =
      let same : one.context ≡ other.context = some_is (sym one.there ∙ other.there) in
      let constraints : one.constraints ≡ other.constraints =
      stands_after one.context.policy one.constraints answer (edit_outcome one.context.policy edit) one.outcome one.answers
      ∙ ap (λ (context : ContextState S F L). standing_after context.policy (edit_outcome context.policy edit)) same
      ∙ sym (stands_after other.context.policy other.constraints answer (edit_outcome other.context.policy edit) other.outcome other.answers) in
      one.is_after ∙ (λ i. slice_set before place (under (constraints i) (same i))) ∙ sym other.is_after

  one_once : (before after its_after : Contexts) (transition : Transition S F L) → Leads moving before transition after → Leads moving before transition its_after
      → after ≡ its_after
  one_once before after its_after (Expiries moment expiries) one other = one.after_are ∙ sym other.after_are
  one_once before after its_after Continuation one other = one ∙ sym other
  one_once before after its_after (Refusal fault text) one other = one ∙ sym other
  one_once before after its_after (OwnAnswer message entry response text) one other = one ∙ sym other
  one_once before after its_after (ContextAnswer place handling made text) one other = one.is_after ∙ sym other.is_after
  one_once before after its_after (EditAnswer place edit answer) one other = edited_once place edit answer before after its_after one other
  one_once before after its_after Closing one other = one ∙ sym other

  through_once : (before after its_after : Contexts) (transitions : List (Transition S F L)) → LeadsThrough moving before transitions after
      → LeadsThrough moving before transitions its_after → after ≡ its_after
  through_once before after its_after [] one other = one ∙ sym other
  through_once before after its_after (transition ∷ transitions) one other =
      let same : one.0 ≡ other.0 = one_once before one.0 other.0 transition one.1 other.1 in
      through_once one.0 after its_after transitions one.2 (subst (λ its. LeadsThrough moving its transitions its_after) (sym same) other.2)

  module _ {Words : Type 0} (draws : Words → ℕ × ℕ → Words → Type 0) where
    abbrev Whole : Type 0
    Whole = State (ContextState S F L) Words

    abbrev Answers : Type 0
    Answers = List (Answer (ContextState S F L))

    -- ---- the transitions of a run lead from its contexts before to those after

    one_leads : (before after : Whole) (happening : Happening) (answer : Answer (ContextState S F L)) (transitions : List (Transition S F L))
        → IsAnsweredBy moving draws before happening answer transitions after
        → LeadsThrough moving before.world.contexts transitions after.world.contexts
    one_leads before after happening (Ok effect) transitions is = is.leads
    one_leads before after happening (Err fault) transitions is =
        subst (λ its. LeadsThrough moving before.world.contexts its after.world.contexts) (sym is.none)
        (ap (λ (state : Whole). state.world.contexts) is.stays)

    leads_of : (before after : Whole) (happenings : List Happening) (answers : Answers) (transitions : List (Transition S F L))
        → AreTransitionsOf moving draws before happenings answers transitions after
        → LeadsThrough moving before.world.contexts transitions after.world.contexts
    leads_of before after [] [] transitions are =
        subst (λ its. LeadsThrough moving before.world.contexts its after.world.contexts) (sym are.0) (ap (λ (state : Whole). state.world.contexts) are.1)
    leads_of before after [] (answer ∷ answers) transitions are = absurd are
    leads_of before after (happening ∷ happenings) [] transitions are = absurd are
    leads_of before after (happening ∷ happenings) (answer ∷ answers) transitions are =
        subst (λ its. LeadsThrough moving before.world.contexts its after.world.contexts) (sym are.5)
        (through_all moving before.world.contexts are.2.world.contexts after.world.contexts are.0 are.1
        (one_leads before are.2 happening answer are.0 are.3) (leads_of are.2 after happenings answers are.1 are.4))

    -- ---- messages of a run

    pub message_of : (before after : Whole) (happenings : List Happening) (answers : Answers) (lawful : IsLawfulRun moving draws before happenings answers after)
        (earlier later : List (Transition S F L)) (place : ℕ) (handling : Handling (ContextState S F L)) (made : List Record) (text : List ℕ)
        → lawful.transitions ≡ earlier ++ ContextAnswer place handling made text ∷ later
        → (at : Contexts) × LeadsThrough moving before.world.contexts earlier at × (slice_get at place ≡ Some handling.context) × IsLawfulMessage moving handling made
    message_of before after happenings answers lawful earlier later place handling made text are =
        let parts = through_parts moving before.world.contexts after.world.contexts earlier (ContextAnswer place handling made text ∷ later)
        (subst (λ its. LeadsThrough moving before.world.contexts its after.world.contexts) are
        (leads_of before after happenings answers lawful.transitions lawful.are)) in
        (parts.between, parts.first, parts.later.1.there, parts.later.1.lawful)

    in_no_run : (handling : Handling (ContextState S F L)) (made : List Record) → ¬ (IsLawfulMessage moving handling made) → IsInNoRun moving draws handling made
    in_no_run handling made unlawful before after happenings answers lawful earlier later place text are =
        unlawful (message_of before after happenings answers lawful earlier later place handling made text are).3

    pub altered_messages_are_in_no_run : JustOneCaseHolds → AlteredMessagesAreInNoRun moving draws
    altered_messages_are_in_no_run one_case before after happenings answers lawful earlier later place handling made text are =
        let its = message_of before after happenings answers lawful earlier later place handling made text are in
        record {
          at = its.0;
          reached = its.1;
          there = its.2;
          lawful = its.3;
          no_servlet_called = λ servlet entries goes.
              in_no_run (record handling { entries = entries }) []
              ((messages.entries_call_their_servlet moving handling made servlet goes its.3).nothing_called entries);
          another_exchange = λ servlet entries exchange step left others goes apart.
              in_no_run (record handling { entries = entries }) (calls_with moving handling made servlet exchange step left others)
              ((messages.entries_call_their_servlet moving handling made servlet goes its.3).another_exchange entries exchange step left others apart);
          no_filter_called = λ filter entries goes.
              in_no_run (record handling { entries = entries }) []
              ((messages.entries_pass_their_first_filter moving handling made filter goes its.3).nothing_called entries);
          another_call = λ filter entries call others goes apart.
              in_no_run (record handling { entries = entries }) (calls_from moving handling made call others)
              ((messages.entries_pass_their_first_filter moving handling made filter goes its.3).another_call entries call others apart);
          other_sessions = λ number target store others because apart.
              in_no_run (record handling { after = record handling.after { store = store } }) others
              ((messages.logins_are_of_their_session moving one_case handling made number target because its.3).other_sessions store others apart);
          another_context = λ other apart other_before other_after its_happenings its_answers its_lawful others its_text its_later same its_are.
              let its_other = message_of other_before other_after its_happenings its_answers its_lawful earlier its_later place other others its_text its_are in
              let once : its_other.0 ≡ its.0 =
              through_once before.world.contexts its_other.0 its.0 earlier (subst (λ contexts. LeadsThrough moving contexts earlier its_other.0) same its_other.1) its.1 in
              apart (some_is (sym its_other.2 ∙ ap (λ contexts. slice_get contexts place) once ∙ its.2));
          another_outcome = λ cause other behind others because apart.
              in_no_run (record handling { entries = other ∷ behind }) others
              ((messages.outcomes_are_of_their_context moving one_case handling made cause because its.3).another_entry other behind others apart);
          other_notifications = λ entries others apart.
              in_no_run (record handling { entries = entries }) others
              ((messages.notifications_are_in_order moving one_case handling made its.3).other_order entries others apart);
        }

    -- ---- runs in parts

    abbrev AreOf : Whole → List Happening → Answers → List (Transition S F L) → Whole → Type 0
    AreOf before happenings answers transitions after = AreTransitionsOf moving draws before happenings answers transitions after

    parts_of : (before after : Whole) (earlier later : List Happening) (answered answers : Answers) (transitions : List (Transition S F L))
        → length answered ≡ length earlier → AreOf before (earlier ++ later) (answered ++ answers) transitions after
        → (at : Whole) × (first rest : List (Transition S F L)) × AreOf before earlier answered first at × AreOf at later answers rest after
    parts_of before after [] later [] answers transitions same are = (before, [], transitions, (refl, refl), are)
    parts_of before after [] later (answer ∷ answered) answers transitions same are = absurd (omega (arith, same))
    parts_of before after (happening ∷ earlier) later [] answers transitions same are = absurd (omega (arith, same))
    parts_of before after (happening ∷ earlier) later (answer ∷ answered) answers transitions same are =
        let fewer : length answered ≡ length earlier = omega (arith, same) in
        let rest = parts_of are.2 after earlier later answered answers are.1 fewer are.4 in
        (rest.0, are.0 ++ rest.1, rest.2, (are.0, rest.1, are.2, are.3, rest.3, refl), rest.4)

    joined : (before at after : Whole) (earlier later : List Happening) (answered answers : Answers) (first rest : List (Transition S F L))
        → AreOf before earlier answered first at → AreOf at later answers rest after → AreOf before (earlier ++ later) (answered ++ answers) (first ++ rest) after
    joined before at after [] later [] answers first rest one other =
        subst (λ (state : Whole). AreOf state later answers (first ++ rest) after) one.1
        (subst (λ its. AreOf at later answers (its ++ rest) after) (sym one.0) other)
    joined before at after [] later (answer ∷ answered) answers first rest one other = absurd one
    joined before at after (happening ∷ earlier) later [] answers first rest one other = absurd one
    joined before at after (happening ∷ earlier) later (answer ∷ answered) answers first rest one other = (
      one.0,
      one.1 ++ rest,
      one.2,
      one.3,
      joined one.2 at after earlier later answered answers one.1 rest one.4 other,
      ap (λ its. its ++ rest) one.5 ∙ append_assoc one.0 one.1 rest,
    )

    module _ (journalled : RunsAreJournalled moving) (one_case : JustOneCaseHolds) (moves : RunsMoveComponents moving) where
      lawful_of : (before after : Whole) (happenings : List Happening) (answers : Answers) (transitions : List (Transition S F L))
          → AreOf before happenings answers transitions after → IsLawfulRun moving draws before happenings answers after
      lawful_of before after happenings answers transitions are =
          lawful_by moving draws journalled one_case moves before after happenings answers transitions are (leads_of before after happenings answers transitions are)

      pub runs_are_lawful_in_parts : RunsAreLawfulInParts moving draws
      runs_are_lawful_in_parts before after earlier later answered answers same = (
        λ lawful.
            let parts = parts_of before after earlier later answered answers lawful.transitions same lawful.are in (
              parts.0,
              lawful_of before parts.0 earlier answered parts.1 parts.3,
              lawful_of parts.0 after later answers parts.2 parts.4,
            ),
        λ parts.
            lawful_of before after (earlier ++ later) (answered ++ answers) (parts.1.transitions ++ parts.2.transitions)
            (joined before parts.0 after earlier later answered answers parts.1.transitions parts.2.transitions parts.1.are parts.2.are),
      )

      module _ (cuts : FeedingsMayBeCut) (unique : ReadingsAreUnique) where
        -- the ends of expired sessions are noted alike
        notes_alike : (one other : Whole) (happening : Happening) (expiries others : List (Expiry S F L)) → AgreesWith moving draws one other
            → map seen one.world.contexts ≡ map seen other.world.contexts
            → one.world.contexts ≡ map (λ (expiry : Expiry S F L). expiry.context) expiries
            → other.world.contexts ≡ map (λ (expiry : Expiry S F L). expiry.context) others
            → AllByRecursion (IsExpiry moving (moment_after one.moment happening)) expiries
            → AllByRecursion (IsExpiry moving (moment_after other.moment happening)) others → flat_map entries_of expiries ≡ flat_map entries_of others
        notes_alike one other happening expiries others agrees alike contexts its_contexts each its_each =
            (expired_alike moving (moment_after one.moment happening) expiries others (ap (map seen) (sym contexts) ∙ alike ∙ ap (map seen) its_contexts) each
            (subst (λ time. AllByRecursion (IsExpiry moving (moment_after time happening)) others) (sym agrees.same_time) its_each)).0

        -- an event that is lawful in no state with the same connections, time and paths, and with contexts alike, continues no run
        continues_none : (before at : Whole) (earlier : List Happening) (answered : Answers) (first : List (Transition S F L)) (happening : Happening)
            (effect : Effect (ContextState S F L)) → length answered ≡ length earlier → AreOf before earlier answered first at
            → ((other : Whole) (others : List (Transition S F L)) (its_after : Whole) → AgreesWith moving draws at other
            → ((target : Target) → destination (theory moving draws) other.world.contexts target ≡ destination (theory moving draws) at.world.contexts target)
            → map seen at.world.contexts ≡ map seen other.world.contexts → ¬ (IsLawfulEvent moving draws other happening effect others its_after))
            → ContinuesInNoRun moving draws before earlier answered happening effect
        continues_none before at earlier answered first happening effect same are unlawful after later answers lawful =
            let parts = parts_of before after earlier (happening ∷ later) answered (Ok effect ∷ answers) lawful.transitions same lawful.are in
            let other = parts.0 in
            let paths =
            through_paths moving draws before.world.contexts other.world.contexts parts.1 (leads_of before other earlier answered parts.1 parts.3)
            ∙ sym (through_paths moving draws before.world.contexts at.world.contexts first (leads_of before at earlier answered first are)) in
            let start : AgreesWith moving draws before before = record { same_connections = refl; same_time = refl } in
            unlawful other parts.4.0 parts.4.2 (events_once moving draws unique before before at other earlier answered first parts.1 start are parts.3)
            (same_destination (theory moving draws) at.world.contexts other.world.contexts paths)
            (events_seen moving draws unique before before at other earlier answered first parts.1 start refl are parts.3) parts.4.3

        pub altered_events_are_in_no_run : AlteredEventsAreInNoRun moving draws
        altered_events_are_in_no_run before after earlier later happening answered answers effect same lawful =
            let parts = parts_of before after earlier (happening ∷ later) answered (Ok effect ∷ answers) lawful.transitions same lawful.are in
            let at = parts.0 in
            let own = parts.4.0 in
            let next = parts.4.2 in
            let event : IsLawfulEvent moving draws at happening effect own next = parts.4.3 in
            let expires = events.events_notify_of_expiries_first moving draws at next happening effect own event in
            record {
              at = at;
              next = next;
              own = own;
              reached = lawful_of before at earlier answered parts.1 parts.3;
              lawful = event;
              expires = expires;
              silent = λ journal apart.
                  continues_none before at earlier answered parts.1 happening (record effect { journal = journal }) same parts.3
                  (λ other others its_after agrees goes alike its.
                  let one = events.expires_first moving draws at next happening effect own event in
                  let its_own = events.expires_first moving draws other its_after happening (record effect { journal = journal }) others its in
                  apart its_own.behind
                  (its_own.are
                  ∙ ap (λ front. front ++ its_own.behind)
                  (sym (events.told_is moving draws at next happening effect own event
                  ∙ notes_alike at other happening one.expiries its_own.expiries agrees alike one.contexts its_own.contexts one.each its_own.each))));
              other_notifications = λ moment journal is apart.
                  subst (λ its. ContinuesInNoRun moving draws before earlier answered its (record effect { journal = journal })) (sym is)
                  (continues_none before at earlier answered parts.1 (Tick moment) (record effect { journal = journal }) same parts.3
                  (λ other others its_after agrees goes alike its.
                  let one = events.ticked moving draws at next moment effect own (subst (λ its. IsLawfulEvent moving draws at its effect own next) is event) in
                  let its_own = events.ticked moving draws other its_after moment (record effect { journal = journal }) others its in
                  apart
                  (its_own.are
                  ∙ sym (one.are ∙ notes_alike at other (Tick moment) one.expiries its_own.expiries agrees alike one.contexts its_own.contexts one.each its_own.each))));
              swallowed = λ number piece moment message items is begins.
                  subst (λ its. ContinuesInNoRun moving draws before earlier answered its (record effect { deeds = [] })) (sym is)
                  (continues_none before at earlier answered parts.1 (Piece number piece moment) (record effect { deeds = [] }) same parts.3
                  (λ other others its_after agrees goes alike.
                  events.swallows_none moving draws cuts unique other its_after effect others number piece moment message items
                  (begins_there moving draws at other effect (record effect { deeds = [] }) number piece message items agrees begins)));
              refused = λ number piece moment message items fault deeds is begins.
                  let its_effect = record effect { deeds = Answered (entries.Refused (causes.Wire fault)) ∷ deeds } in
                  subst (λ its. ContinuesInNoRun moving draws before earlier answered its its_effect) (sym is)
                  (continues_none before at earlier answered parts.1 (Piece number piece moment) its_effect same parts.3
                  (λ other others its_after agrees goes alike.
                  events.refuses_none moving draws cuts unique other its_after effect others number piece moment message items fault deeds
                  (begins_there moving draws at other effect its_effect number piece message items agrees begins)));
              another_response = λ number piece moment message place handling sends is begins deeds apart.
                  subst (λ its. ContinuesInNoRun moving draws before earlier answered its (record effect { sends = sends })) (sym is)
                  (continues_none before at earlier answered parts.1 (Piece number piece moment) (record effect { sends = sends }) same parts.3
                  (λ other others its_after agrees goes alike its.
                  apart
                  (subst (λ time. IsAnswerTo message (moment_after time (Piece number piece moment)) handling.response sends) (sym agrees.same_time)
                  (events.sent moving draws cuts unique other its_after number piece moment message place handling (record effect { sends = sends }) others
                  (begins_there moving draws at other effect (record effect { sends = sends }) number piece message [] agrees begins) deeds its))));
              other_answers = λ number piece moment items deeds sends is completes apart.
                  let its_effect = record effect { deeds = deeds; sends = sends } in
                  subst (λ its. ContinuesInNoRun moving draws before earlier answered its its_effect) (sym is)
                  (continues_none before at earlier answered parts.1 (Piece number piece moment) its_effect same parts.3
                  (λ other others its_after agrees goes alike its.
                  apart
                  (subst (λ time. AreAnswersTo moving draws at (moment_after time (Piece number piece moment)) items deeds sends) (sym agrees.same_time)
                  (answers_there moving draws at other (moment_after other.moment (Piece number piece moment)) goes items deeds sends
                  (in_order moving draws cuts unique other its_after its_effect others number piece moment items
                  (completes_there moving draws at other number piece items agrees completes) its)))));
            }
