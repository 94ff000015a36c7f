-- Each run of our contexts is lawful: its events have their transitions.
use Rattle.std.proofs.Common.{◌≡◌, ℕ, Bool, true, false, List, [], ◌∷◌, ◌++◌, map, Option, None, Some, Result, Ok, Err, refl, sym, ap, ◌∙◌, subst, slice_get, slice_set, bytes_eq, position}
use Rattle.std.specs.Bool.{MatchBool}
use Rattle.std.specs.List.{AllByRecursion, flat_map}
use Rattle.sv_component.specs.Laws.{RunsAreJournalled, RunsMoveComponents}
use Rattle.sv_component.specs.Runs.{Record}
use Rattle.sv_component.specs.Steps.{ComponentSteps}
use Rattle.sv_context.specs.Conduct.{caller_in, conduct, unnoted}
use Rattle.sv_context.specs.State.{ContextState, world_of}
use Rattle.sv_context.specs.Theory.{theory}
use Rattle.sv_headline.proofs.Leading.{GoesOn, leads_paths, path_of, same_destination, some_is, through_all, through_on, through_parts}
use Rattle.sv_headline.proofs.Messages.{expiry_of, is_expiry, message_is_lawful, told_are}
use Rattle.sv_headline.specs.Events.{Answers, AreOf, AreTransitionsOf, Brings, IsAnsweredBy, IsLawfulEvent, IsOf, Only}
use Rattle.sv_headline.specs.Record.{AreDecidedByThen, EveryRunIsLawful, IsLawfulRun, IsMovedBy}
use Rattle.sv_headline.specs.Transitions.{Closing, ContextAnswer, Continuation, EditAnswer, Expiries, Expiry, IsExpiry, Leads, LeadsThrough, OwnAnswer, Refusal, Transition, calls_at, edits_at, effect_of, effect_of_all, entries_of}
use Rattle.sv_journal.specs.declared.entry.Entry.{Entry}
use Rattle.sv_login.specs.OutcomeLaws.{JustOneCaseHolds}
use Rattle.sv_message.specs.declared.message.Message.{Message as MessageRecord}
use Rattle.sv_message.specs.declared.message.Target.{Target}
use Rattle.sv_policy.specs.declared.edit.Edit.{Edit}
use Rattle.sv_policy.specs.declared.edit_fault.EditFault.{EditFault}
use Rattle.sv_run.proofs.Tracing.{runs_on, stopped_stays}
use Rattle.sv_run.specs.Connections.{Connections, forgotten, opened}
use Rattle.sv_run.specs.Contexts.{Request}
use Rattle.sv_run.specs.Editing.{EditsIn, place_with}
use Rattle.sv_run.specs.Effect.{Effect, handled, joined, nothing, telling}
use Rattle.sv_run.specs.Events.{Accepts, Edited, Ended, ExpiresAll, Happening, Happens, Lost, Opened, Piece, Tick, moment_after}
use Rattle.sv_run.specs.Feeding.{FeedsWhere}
use Rattle.sv_run.specs.Items.{Responds, Takes, TakesItem, TakesNone, closes_behind}
use Rattle.sv_run.specs.Messages.{Destination, Itself, Within, destination}
use Rattle.sv_run.specs.Runs.{Answer, Run}
use Rattle.sv_run.specs.State.{State, World, settled_at}
use Rattle.sv_run.specs.declared.step_fault.StepFault.TheVariants.{Stopped, BadConnection, TooManyConnections, NoMemory}
use Rattle.sv_wire.proofs.BoolLemmas.{MatchBool-from_true, MatchBool-from_false}
use Rattle.sv_wire.specs.declared.item.Item.{Item}
use Rattle.sv_wire.specs.declared.item.Item.TheVariants.{Continue, Message, Refuse}

module _ {S F L Words : Type 0} (moving : ComponentSteps S F L) (draws : Words → ℕ × ℕ → Words → Type 0) (journalled : RunsAreJournalled moving)
    (one_case : JustOneCaseHolds) where
  abbrev Contexts : Type 0
  Contexts = List (ContextState S F L)

  -- ---- expiries

  record AllExpire (moment : ℕ) (before : Contexts) (told : List Entry) (after : Contexts) : Type 0 where
    pub expiries : List (Expiry S F L)
    pub before_are : before ≡ map (λ (expiry : Expiry S F L). expiry.context) expiries
    pub after_are : after ≡ map (λ (expiry : Expiry S F L). expiry.after) expiries
    pub each : AllByRecursion (IsExpiry moving moment) expiries
    pub told_are : told ≡ flat_map entries_of expiries

  all_expire : (moment : ℕ) (before after : Contexts) (told : List Entry) → ExpiresAll (conduct moving) before moment told after
      → AllExpire moment before told after
  all_expire moment [] after told expires = record { expiries = []; before_are = refl; after_are = expires.1; each = tt; told_are = expires.0 }
  all_expire moment (context ∷ contexts) after told expires =
      let others = all_expire moment contexts expires.3 expires.1 expires.5 in
      let one = expiry_of moving journalled context expires.2 moment expires.0 expires.4 in
      record {
        expiries = one ∷ others.expiries;
        before_are = ap (λ rest. context ∷ rest) others.before_are;
        after_are = expires.7 ∙ ap (λ rest. expires.2 ∷ rest) others.after_are;
        each = (is_expiry moving journalled context expires.2 moment expires.0 expires.4, others.each);
        told_are = expires.6 ∙ (λ i. told_are moving journalled context expires.2 moment expires.0 expires.4 i ++ others.told_are i);
      }

  -- ---- messages

  module _ (goes_to : Target → Destination) (moment : ℕ) where
    record OneBrought (item : Item) (words : Words) (before : Contexts) (effect : Effect (ContextState S F L)) (words_after : Words) (after : Contexts) : Type 0 where
      pub transition : Transition S F L
      pub is_of : IsOf draws goes_to moment item words transition words_after
      pub leads : Leads moving before transition after
      pub effect_is : effect ≡ effect_of transition

    answered : (message : MessageRecord) (to : Destination) (pair : ℕ × ℕ) (words words_after : Words) (before after : Contexts)
        (effect : Effect (ContextState S F L)) → draws words pair words_after → goes_to message.target ≡ to
        → Responds (theory moving draws) moment to message pair before effect after → OneBrought (Message message) words before effect words_after after
    answered message (Itself entry response) pair words words_after before after effect drawn is responds =
        let transition : Transition S F L = OwnAnswer message entry response responds.0 in
        record {
          transition = transition;
          is_of = (
            pair,
            drawn,
            subst (λ to. Answers draws goes_to moment to message pair transition) (sym is) (responds.0, responds.1, refl),
          );
          leads = responds.3;
          effect_is = responds.2;
        }
    answered message (Within place canon) pair words words_after before after effect drawn is responds =
        let handling = responds.0 in
        let handles = responds.3.handles in
        let transition : Transition S F L = ContextAnswer place handling handles.is_answered.made responds.1 in
        record {
          transition = transition;
          is_of = (
            pair,
            drawn,
            subst (λ to. Answers draws goes_to moment to message pair transition) (sym is)
                (handling, handles.is_answered.made, responds.1, responds.2, responds.4, refl),
          );
          leads = record {
            there = responds.3.there;
            lawful = message_is_lawful moving journalled one_case handling handles;
            is_after = responds.3.is_after;
          };
          effect_is =
              responds.5
              ∙ ap (λ (request : Request). handled place (caller_in handling.context request.message) handling responds.1 (closes_behind request.message handling.response)) (sym responds.2);
        }

    one_brought : (item : Item) (before after : World (ContextState S F L) Words) (effect : Effect (ContextState S F L))
        → ((target : Target) → goes_to target ≡ destination (theory moving draws) before.contexts target)
        → TakesItem (theory moving draws) moment item before effect after → OneBrought item before.words before.contexts effect after.words after.contexts
    one_brought Continue before after effect goes takes = record {
      transition = Continuation;
      is_of = (refl, ap (λ (world : World (ContextState S F L) Words). world.words) takes.1);
      leads = ap (λ (world : World (ContextState S F L) Words). world.contexts) takes.1;
      effect_is = takes.0;
    }
    one_brought (Refuse fault) before after effect goes takes = record {
      transition = Refusal fault takes.0;
      is_of = (takes.0, takes.1, refl, ap (λ (world : World (ContextState S F L) Words). world.words) takes.3);
      leads = ap (λ (world : World (ContextState S F L) Words). world.contexts) takes.3;
      effect_is = takes.2;
    }
    one_brought (Message message) before after effect goes takes =
        answered message (destination (theory moving draws) before.contexts message.target) takes.0 before.words after.words before.contexts after.contexts
        effect takes.1 (goes message.target) takes.2

    record Brought (items : List Item) (before : World (ContextState S F L) Words) (effect : Effect (ContextState S F L)) (after : World (ContextState S F L) Words) : Type 0 where
      pub transitions : List (Transition S F L)
      pub are : AreOf draws goes_to moment items before.words transitions after.words
      pub leads : LeadsThrough moving before.contexts transitions after.contexts
      pub effect_is : effect ≡ effect_of_all transitions

    -- the items behind one: none if it closes the connection
    behind : (item : Item) (items : List Item) (before between after : World (ContextState S F L) Words) (first later : Effect (ContextState S F L))
        (one : OneBrought item before.words before.contexts first between.words between.contexts) (t : Bool) → (effect_of one.transition).closes ≡ t
        → MatchBool t (TakesNone (theory moving draws) moment between later after) (Brought items between later after)
        → Brought (item ∷ items) before (joined first later) after
    behind item items before between after first later one true closes none = record {
      transitions = one.transition ∷ [];
      are = (
        one.transition,
        [],
        between.words,
        refl,
        one.is_of,
        MatchBool-from_true (effect_of one.transition).closes _ _ closes (refl, ap (λ (world : World (ContextState S F L) Words). world.words) none.1),
      );
      leads = (between.contexts, one.leads, ap (λ (world : World (ContextState S F L) Words). world.contexts) none.1);
      effect_is = λ i. joined (one.effect_is i) (none.0 i);
    }
    behind item items before between after first later one false stays others = record {
      transitions = one.transition ∷ others.transitions;
      are = (
        one.transition,
        others.transitions,
        between.words,
        refl,
        one.is_of,
        MatchBool-from_false (effect_of one.transition).closes _ _ stays others.are,
      );
      leads = (between.contexts, one.leads, others.leads);
      effect_is = λ i. joined (one.effect_is i) (others.effect_is i);
    }

    match_map : (A B C : Type 0) (t : Bool) → (B → C) → MatchBool t A B → MatchBool t A C
    match_map A B C true f given = given
    match_map A B C false f given = f given

    brought : (items : List Item) (before after : World (ContextState S F L) Words) (effect : Effect (ContextState S F L))
        → ((target : Target) → goes_to target ≡ destination (theory moving draws) before.contexts target)
        → Takes (theory moving draws) moment items before effect after → Brought items before effect after
    brought [] before after effect goes takes = record {
      transitions = [];
      are = (refl, ap (λ (world : World (ContextState S F L) Words). world.words) takes.1);
      leads = ap (λ (world : World (ContextState S F L) Words). world.contexts) takes.1;
      effect_is = takes.0;
    }
    brought (item ∷ items) before after effect goes takes =
        let between = takes.0 in
        let one = one_brought item before between takes.1 goes takes.3 in
        let still : (target : Target) → goes_to target ≡ destination (theory moving draws) between.contexts target =
        λ target. goes target
        ∙ sym (same_destination (theory moving draws) before.contexts between.contexts (leads_paths moving before.contexts between.contexts one.transition one.leads) target) in
        subst (λ its. Brought (item ∷ items) before its after) (sym takes.5)
        (behind item items before between after takes.1 takes.2 one (effect_of one.transition).closes refl
        (match_map _ _ _ (effect_of one.transition).closes (λ rest. brought items between after takes.2 still rest)
        (subst (λ (its : Effect (ContextState S F L)). MatchBool its.closes (TakesNone (theory moving draws) moment between takes.2 after) (Takes (theory moving draws) moment items between takes.2 after))
        one.effect_is takes.4)))

  -- ---- events

  abbrev Whole : Type 0
  Whole = State (ContextState S F L) Words

  -- what an event itself brings, behind the expiries
  record OwnBrought (before : Whole) (happening : Happening) (contexts : Contexts) (effect : Effect (ContextState S F L)) (after : Whole) : Type 0 where
    pub goes_on : after.stopped ≡ before.stopped
    pub time : after.moment ≡ moment_after before.moment happening
    pub transitions : List (Transition S F L)
    pub brings : Brings moving draws before happening transitions after
    pub leads : LeadsThrough moving contexts transitions after.world.contexts
    pub effect_is : effect ≡ effect_of_all transitions

  edits_lead : (place : Option ℕ) (edit : Edit) (answer : Result ℕ EditFault) (before after : Contexts)
      → EditsIn (theory moving draws) place before edit answer after → Leads moving before (EditAnswer place edit answer) after
  edits_lead None edit answer before after edits = edits
  edits_lead (Some place) edit answer before after edits = record {
    context = edits.context;
    there = edits.there;
    constraints = edits.edited.policy;
    outcome = edits.edits.outcome;
    answers = edits.answers;
    is_after = edits.is_after ∙ ap (λ its. slice_set before place its) edits.edits.stays;
  }

  same_place : (one other : Contexts) → map path_of other ≡ map path_of one → (path : List ℕ)
      → place_with (theory moving draws) other path ≡ place_with (theory moving draws) one path
  same_place one other same path = ap (λ paths. position (bytes_eq path) paths) same

  -- an event that brings no transition
  own_nothing : (before after : Whole) (happening : Happening) (contexts : Contexts) (effect : Effect (ContextState S F L)) (connections : Connections)
      → effect ≡ nothing → after ≡ record (settled_at (moment_after before.moment happening) contexts before) { connections = connections }
      → (Only moving draws [] connections before [] after → Brings moving draws before happening [] after) → OwnBrought before happening contexts effect after
  own_nothing before after happening contexts effect connections none is brings = record {
    goes_on = ap (λ (state : Whole). state.stopped) is;
    time = ap (λ (state : Whole). state.moment) is;
    transitions = [];
    brings = brings (refl, ap (λ (state : Whole). state.connections) is, ap (λ (state : Whole). state.world.words) is);
    leads = ap (λ (state : Whole). state.world.contexts) is;
    effect_is = none;
  }

  own : (before after : Whole) (happening : Happening) (contexts : Contexts) (effect : Effect (ContextState S F L))
      → map path_of contexts ≡ map path_of before.world.contexts
      → Happens (theory moving draws) (settled_at (moment_after before.moment happening) contexts before) happening effect after
      → OwnBrought before happening contexts effect after
  own before after (Opened number) contexts effect same happens =
      own_nothing before after (Opened number) contexts effect (opened number before.connections) happens.0 happens.1 (λ its. its)
  own before after (Piece number bytes moment) contexts effect same happens =
      let now = moment_after before.moment (Piece number bytes moment) in
      let settled = settled_at now contexts before in
      let is_now : after.moment ≡ now = ap (λ (state : Whole). state.moment) happens.is_after in
      let goes = destination (theory moving draws) before.world.contexts in
      let its = brought goes now happens.items settled.world happens.world effect
      (λ target. sym (same_destination (theory moving draws) before.world.contexts contexts same target)) happens.takes in
      record {
        goes_on = ap (λ (state : Whole). state.stopped) happens.is_after;
        time = is_now;
        transitions = its.transitions;
        brings = record {
          held = happens.held;
          holds = happens.holds;
          items = happens.items;
          left = happens.left;
          feeds = subst (λ (effect : Effect (ContextState S F L)). FeedsWhere effect.closes happens.held bytes happens.items happens.left) its.effect_is happens.feeds;
          are =
              subst (λ when. AreOf draws goes when happens.items before.world.words its.transitions after.world.words) (sym is_now)
              (subst (AreOf draws goes now happens.items before.world.words its.transitions) (sym (ap (λ (state : Whole). state.world.words) happens.is_after)) its.are);
          connections = ap (λ (state : Whole). state.connections) happens.is_after;
        };
        leads = subst (LeadsThrough moving contexts its.transitions) (sym (ap (λ (state : Whole). state.world.contexts) happens.is_after)) its.leads;
        effect_is = its.effect_is;
      }
  own before after (Ended number) contexts effect same happens = record {
    goes_on = ap (λ (state : Whole). state.stopped) happens.1;
    time = ap (λ (state : Whole). state.moment) happens.1;
    transitions = Closing ∷ [];
    brings = (refl, ap (λ (state : Whole). state.connections) happens.1, ap (λ (state : Whole). state.world.words) happens.1);
    leads = (contexts, refl, ap (λ (state : Whole). state.world.contexts) happens.1);
    effect_is = happens.0;
  }
  own before after (Lost number) contexts effect same happens =
      own_nothing before after (Lost number) contexts effect (forgotten number before.connections) happens.0 happens.1 (λ its. its)
  own before after (Tick moment) contexts effect same happens =
      own_nothing before after (Tick moment) contexts effect before.connections happens.0 happens.1 (λ its. its)
  own before after (Edited path edit) contexts effect same happens =
      let place = place_with (theory moving draws) before.world.contexts path in
      let leads = edits_lead place edit happens.answer contexts happens.contexts
      (subst (λ at. EditsIn (theory moving draws) at contexts edit happens.answer happens.contexts) (same_place before.world.contexts contexts same path) happens.edits) in
      record {
        goes_on = ap (λ (state : Whole). state.stopped) happens.is_after;
        time = ap (λ (state : Whole). state.moment) happens.is_after;
        transitions = EditAnswer place edit happens.answer ∷ [];
        brings = (
          happens.answer,
          (refl, ap (λ (state : Whole). state.connections) happens.is_after, ap (λ (state : Whole). state.world.words) happens.is_after),
        );
        leads = (happens.contexts, leads, ap (λ (state : Whole). state.world.contexts) happens.is_after);
        effect_is = happens.brings;
      }

  abbrev Lawful : Whole → Happening → Effect (ContextState S F L) → Whole → Type 0
  Lawful before happening effect after = (transitions : List (Transition S F L)) × IsLawfulEvent moving draws before happening effect transitions after

  accepted : (before after : Whole) (happening : Happening) (effect : Effect (ContextState S F L))
      → Accepts (theory moving draws) before happening effect after → Lawful before happening effect after
  accepted before after happening effect accepts =
      let now = moment_after before.moment happening in
      let all = all_expire now before.world.contexts accepts.contexts accepts.told accepts.expires in
      let leads : Leads moving before.world.contexts (Expiries now all.expiries) accepts.contexts =
      record { before_are = all.before_are; after_are = all.after_are; each = all.each } in
      let its = own before after happening accepts.contexts accepts.brings
      (leads_paths moving before.world.contexts accepts.contexts (Expiries now all.expiries) leads) accepts.happens in (
        Expiries after.moment all.expiries ∷ its.transitions,
        record {
          runs = accepts.runs;
          goes_on = its.goes_on ∙ accepts.runs;
          no_fault = accepts.no_fault;
          time = its.time;
          expiries = all.expiries;
          brought = its.transitions;
          are = refl;
          brings = its.brings;
          leads =
              subst (λ when. LeadsThrough moving before.world.contexts (Expiries when all.expiries ∷ its.transitions) after.world.contexts) (sym its.time)
              (accepts.contexts, leads, its.leads);
          effect_is = accepts.is_joined ∙ (λ i. joined (telling (all.told_are i)) (its.effect_is i));
        },
      )

  -- ---- runs

  -- the transitions of a run, from its contexts before to those after
  record Recorded (before : Whole) (happenings : List Happening) (answers : List (Answer (ContextState S F L))) (after : Whole) : Type 0 where
    pub transitions : List (Transition S F L)
    pub are : AreTransitionsOf moving draws before happenings answers transitions after
    pub leads : LeadsThrough moving before.world.contexts transitions after.world.contexts

  refused : (before between after : Whole) (happening : Happening) (happenings : List Happening) (answer : Answer (ContextState S F L))
      (answers : List (Answer (ContextState S F L))) → IsAnsweredBy moving draws before happening answer [] between → between ≡ before
      → Recorded between happenings answers after → Recorded before (happening ∷ happenings) (answer ∷ answers) after
  refused before between after happening happenings answer answers is stays others = record {
    transitions = others.transitions;
    are = ([], others.transitions, between, is, others.are, refl);
    leads = subst (λ (state : Whole). LeadsThrough moving state.world.contexts others.transitions after.world.contexts) stays others.leads;
  }

  recorded : (before after : Whole) (happenings : List Happening) (answers : List (Answer (ContextState S F L)))
      → Run (theory moving draws) before happenings answers after → after.stopped ≡ false → Recorded before happenings answers after
  recorded before after [] [] run runs =
      record { transitions = []; are = (refl, run); leads = ap (λ (state : Whole). state.world.contexts) run }
  recorded before after [] (answer ∷ answers) run runs = absurd run
  recorded before after (happening ∷ happenings) [] run runs = absurd run
  recorded before after (happening ∷ happenings) (Ok effect ∷ answers) run runs =
      let others = recorded run.0 after happenings answers run.2 runs in
      let one = accepted before run.0 happening effect run.1 in
      record {
        transitions = one.0 ++ others.transitions;
        are = (one.0, others.transitions, run.0, one.1, others.are, refl);
        leads = through_all moving before.world.contexts run.0.world.contexts after.world.contexts one.0 others.transitions one.1.leads others.leads;
      }
  recorded before after (happening ∷ happenings) (Err Stopped ∷ answers) run runs =
      absurd (runs_on (stopped_stays (theory moving draws) run.0 after happenings answers run.2 (ap (λ (state : Whole). state.stopped) run.1.1 ∙ run.1.0)) runs)
  recorded before after (happening ∷ happenings) (Err BadConnection ∷ answers) run runs =
      refused before run.0 after happening happenings (Err BadConnection) answers
      (record { runs = run.1.runs; is_fault = run.1.is_fault; none = refl; stays = run.1.stays }) run.1.stays (recorded run.0 after happenings answers run.2 runs)
  recorded before after (happening ∷ happenings) (Err TooManyConnections ∷ answers) run runs =
      refused before run.0 after happening happenings (Err TooManyConnections) answers
      (record { runs = run.1.runs; is_fault = run.1.is_fault; none = refl; stays = run.1.stays }) run.1.stays (recorded run.0 after happenings answers run.2 runs)
  recorded before after (happening ∷ happenings) (Err NoMemory ∷ answers) run runs =
      absurd (runs_on (stopped_stays (theory moving draws) run.0 after happenings answers run.2 run.1.stops) runs)

  module _ (moves : RunsMoveComponents moving) where
    is_moved : (before after : Option (ContextState S F L)) (calls : List Record) (edits : List Edit) → GoesOn moving before calls edits after
        → IsMovedBy moving before calls after
    is_moved None after calls edits goes = goes
    is_moved (Some first) after calls edits goes =
        (goes.0, goes.1, moves (world_of first unnoted) (world_of goes.0 unnoted) calls goes.2)

    decided_by_then : (before after : Contexts) (transitions : List (Transition S F L)) → LeadsThrough moving before transitions after
        → AreDecidedByThen moving before transitions
    decided_by_then before after transitions leads earlier place handling made text later first are there =
        let parts = through_parts moving before after earlier (ContextAnswer place handling made text ∷ later)
        (subst (λ its. LeadsThrough moving before its after) are leads) in
        let goes = subst (λ its. GoesOn moving its (flat_map (calls_at place) earlier) (flat_map (edits_at place) earlier) (slice_get parts.between place)) there
        (through_on moving place before parts.between earlier parts.first) in
        ap (λ (context : ContextState S F L). context.policy) (some_is (sym parts.later.1.there ∙ goes.1)) ∙ goes.3

    -- transitions that lead the contexts on make a run lawful
    pub lawful_by : (before after : Whole) (happenings : List Happening) (answers : List (Answer (ContextState S F L))) (transitions : List (Transition S F L))
        → AreTransitionsOf moving draws before happenings answers transitions after
        → LeadsThrough moving before.world.contexts transitions after.world.contexts → IsLawfulRun moving draws before happenings answers after
    lawful_by before after happenings answers transitions are leads = record {
      transitions = transitions;
      are = are;
      constraints = decided_by_then before.world.contexts after.world.contexts transitions leads;
      moved = λ place.
          is_moved (slice_get before.world.contexts place) (slice_get after.world.contexts place) _ _
          (through_on moving place before.world.contexts after.world.contexts transitions leads);
    }

    pub every_run_is_lawful : EveryRunIsLawful moving draws
    every_run_is_lawful before after happenings answers run runs =
        let its = recorded before after happenings answers run runs in lawful_by before after happenings answers its.transitions its.are its.leads
