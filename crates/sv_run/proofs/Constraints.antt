-- The constraints after a run.
use Rattle.std.proofs.Common.{◌≡◌, ◌≢◌, ℕ, zero, suc, Bool, true, false, cond, List, [], ◌∷◌, ◌++◌, map, Option, None, Some, Result, Ok, Err, refl, sym, ap, ◌∙◌, subst, slice_get, slice_set, bytes_eq, get_or, position}
use Rattle.std.specs.Option.{option_map}
use Rattle.std.proofs.lemmas.Grind.{fold-append}
use Rattle.std.proofs.lemmas.List.Quantifiers.{position-Some}
use Rattle.std.proofs.lemmas.Option.{slice_get-map}
use Rattle.std.proofs.lemmas.Slice.Eq.{bytes_eq-Decides}
use Rattle.sv_journal.specs.declared.entry.Entry.{Entry}
use Rattle.sv_policy.specs.Compiled.{Standing}
use Rattle.sv_policy.specs.Edits.{GivesOutcome, edit_outcome, edited, edited_all, standing_after}
use Rattle.sv_policy.specs.declared.edit.Edit.{Edit}
use Rattle.sv_policy.specs.declared.edit_fault.EditFault.{EditFault}
use Rattle.sv_policy.specs.declared.edit_fault.EditFault.TheVariants as faults
use Rattle.sv_run.specs.Contexts.{Handling, Theory}
use Rattle.sv_run.specs.Editing.{EditsAt, EditsIn, place_with}
use Rattle.sv_run.specs.Effect.{Effect}
use Rattle.sv_run.specs.Connections.{Connections}
use Rattle.sv_run.specs.Events.{Accepts, Edited, Ended, ExpiresAll, Happening, Happens, Lost, Opened, Piece, Tick, fault_of}
use Rattle.sv_run.specs.Items.{HandlesAt, Responds, Takes, TakesItem}
use Rattle.sv_run.specs.Lawful.{ChangesConstraintsByEdits, EditsAlone}
use Rattle.sv_run.specs.Laws.{ConstraintsChangeByEditsAlone, edit_for, edits_of, policy_at}
use Rattle.sv_run.specs.Messages.{Destination, Itself, Within, destination}
use Rattle.sv_run.specs.Runs.{Answer, Run}
use Rattle.sv_run.specs.State.{State, World}
use Rattle.sv_run.specs.declared.step_fault.StepFault.{StepFault}
use Rattle.sv_run.specs.declared.step_fault.StepFault.TheVariants.{Stopped, BadConnection, TooManyConnections, NoMemory}
use Rattle.sv_run.proofs.Tracing.{runs_on, stopped_stays}
use Rattle.sv_run.proofs.Taking.{either}
use Rattle.sv_wire.specs.declared.item.Item.{Item}
use Rattle.sv_wire.specs.declared.item.Item.TheVariants.{Continue, Message, Refuse}
use Rattle.sv_message.specs.declared.message.Message.{Message as MessageRecord}

some_is : {X : Type 0} {a b : X} → ◌≡◌ {A = Option X} (Some a) (Some b) → a ≡ b
some_is same = cc

-- replacing a member by one with the same image keeps the images of the list
same_map : {X Y : Type 0} (f : X → Y) (items : List X) (place : ℕ) (old new : X) → slice_get items place ≡ Some old → f new ≡ f old
    → map f (slice_set items place new) ≡ map f items
same_map f [] place old new there same = refl
same_map f (item ∷ items) zero old new there same = ap (λ y. y ∷ map f items) (same ∙ ap f (sym (some_is there)))
same_map f (item ∷ items) (suc place) old new there same = ap (λ ys. f item ∷ ys) (same_map f items place old new there same)

-- the member at the place that was set, and at another place
pub get_set : {X : Type 0} (items : List X) (place : ℕ) (old new : X) → slice_get items place ≡ Some old → slice_get (slice_set items place new) place ≡ Some new
get_set [] place old new there = absurd (cc)
get_set (item ∷ items) zero old new there = refl
get_set (item ∷ items) (suc place) old new there = get_set items place old new there

pub get_apart : {X : Type 0} (items : List X) (set place : ℕ) (new : X) → place ≢ set → slice_get (slice_set items set new) place ≡ slice_get items place
get_apart [] set place new apart = refl
get_apart (item ∷ items) zero zero new apart = absurd (apart refl)
get_apart (item ∷ items) zero (suc place) new apart = refl
get_apart (item ∷ items) (suc set) zero new apart = refl
get_apart (item ∷ items) (suc set) (suc place) new apart = get_apart items set place new (λ same. apart (ap suc same))

-- two tests that first hold at the same place accept the same member
pass_alike : (paths : List (List ℕ)) (path other : List ℕ) (place : ℕ) → position (bytes_eq path) paths ≡ Some place → position (bytes_eq other) paths ≡ Some place
    → bytes_eq path other ≡ true
pass_alike paths path other place one two =
    let first : path ≡ get_or paths place [] = (bytes_eq-Decides path (get_or paths place [])).0 (position-Some (bytes_eq path) paths place [] one).1 in
    let second : other ≡ get_or paths place [] = (bytes_eq-Decides other (get_or paths place [])).0 (position-Some (bytes_eq other) paths place [] two).1 in
    (bytes_eq-Decides path other).1 (first ∙ sym second)

-- the constraints after an answer other than `NoMemory`
stands_after : (old new : Standing) (answer : Result ℕ EditFault) (outcome : Result (ℕ × Standing) EditFault) → GivesOutcome old new answer outcome
    → answer ≢ Err faults.NoMemory → new ≡ standing_after old outcome
stands_after old new answer (Err fault) gives answers = gives.1
stands_after old new (Ok number) (Ok done) gives answers = gives.1
stands_after old new (Err fault) (Ok done) gives answers = absurd (answers (ap Err gives.0))

-- a refused event is no edit
refused_edits_none : (path : List ℕ) (connections : Connections) (happening : Happening) (fault : StepFault) → fault_of connections happening ≡ Some fault
    → edit_for path happening ≡ []
refused_edits_none path connections (Opened number) fault is = refl
refused_edits_none path connections (Piece number bytes moment) fault is = refl
refused_edits_none path connections (Ended number) fault is = refl
refused_edits_none path connections (Lost number) fault is = refl
refused_edits_none path connections (Tick moment) fault is = refl
refused_edits_none path connections (Edited other edit) fault is = absurd (cc)

module _ {Context Words : Type 0} (theory : Theory Context Words) where
  -- each context has the same constraints and the same path as before
  record Kept (before after : List Context) : Type 0 where
    pub paths : map theory.path_of after ≡ map theory.path_of before
    pub policies : map theory.conduct.policy_of after ≡ map theory.conduct.policy_of before

  kept_same : (before after : List Context) → after ≡ before → Kept before after
  kept_same before after same = record { paths = ap (map theory.path_of) same; policies = ap (map theory.conduct.policy_of) same }

  kept_on : (before between after : List Context) → Kept before between → Kept between after → Kept before after
  kept_on before between after first second = record { paths = second.paths ∙ first.paths; policies = second.policies ∙ first.policies }

  module _ (alone : EditsAlone theory.path_of theory.conduct) (lawful : ChangesConstraintsByEdits theory) where
    handled_keeps : (moment place : ℕ) (before after : List Context) (handling : Handling Context) → HandlesAt theory moment place before handling after → Kept before after
    handled_keeps moment place before after handling handles =
        let keeps = lawful.by_request handling handles.handles in
        record {
          paths = ap (map theory.path_of) handles.is_after ∙ same_map theory.path_of before place handling.context handling.after handles.there keeps.path;
          policies =
              ap (map theory.conduct.policy_of) handles.is_after
              ∙ same_map theory.conduct.policy_of before place handling.context handling.after handles.there keeps.policy;
        }

    responds_keeps : (moment : ℕ) (to : Destination) (message : MessageRecord) (words : ℕ × ℕ) (before after : List Context) (effect : Effect Context)
        → Responds theory moment to message words before effect after → Kept before after
    responds_keeps moment (Itself entry response) message words before after effect responds = kept_same before after responds.3
    responds_keeps moment (Within place canon) message words before after effect responds = handled_keeps moment place before after responds.0 responds.3

    item_keeps : (moment : ℕ) (item : Item) (before after : World Context Words) (effect : Effect Context)
        → TakesItem theory moment item before effect after → Kept before.contexts after.contexts
    item_keeps moment Continue before after effect takes = kept_same before.contexts after.contexts (ap (λ (w : World Context Words). w.contexts) takes.1)
    item_keeps moment (Refuse fault) before after effect takes = kept_same before.contexts after.contexts (ap (λ (w : World Context Words). w.contexts) takes.3)
    item_keeps moment (Message message) before after effect takes =
        responds_keeps moment (destination theory before.contexts message.target) message takes.0 before.contexts after.contexts effect takes.2

    takes_keeps : (moment : ℕ) (items : List Item) (before after : World Context Words) (effect : Effect Context)
        → Takes theory moment items before effect after → Kept before.contexts after.contexts
    takes_keeps moment [] before after effect takes = kept_same before.contexts after.contexts (ap (λ (w : World Context Words). w.contexts) takes.1)
    takes_keeps moment (item ∷ items) before after effect takes =
        kept_on before.contexts takes.0.contexts after.contexts
        (item_keeps moment item before takes.0 takes.1 takes.3)
        (either takes.1.closes takes.4
        (λ none. kept_same takes.0.contexts after.contexts (ap (λ (w : World Context Words). w.contexts) none.1))
        (λ rest. takes_keeps moment items takes.0 after takes.2 rest))

    expires_keeps : (contexts after : List Context) (moment : ℕ) (told : List Entry) → ExpiresAll theory.conduct contexts moment told after → Kept contexts after
    expires_keeps [] after moment told expires = kept_same [] after expires.1
    expires_keeps (context ∷ contexts) after moment told expires =
        let first = lawful.by_expiry context expires.2 moment expires.0 expires.4 in
        let others = expires_keeps contexts expires.3 moment expires.1 expires.5 in
        record {
          paths = ap (map theory.path_of) expires.7 ∙ (λ i. first.path i ∷ others.paths i);
          policies = ap (map theory.conduct.policy_of) expires.7 ∙ (λ i. first.policy i ∷ others.policies i);
        }

    module _ (path : List ℕ) (place : ℕ) where
      -- at the place of the context with the path, the constraints are the result of the edits
      record Leaves (before : List Context) (edits : List Edit) (after : List Context) : Type 0 where
        pub paths : map theory.path_of after ≡ map theory.path_of before
        pub stands : place_with theory before path ≡ Some place → (standing : Standing) → policy_at theory before place ≡ Some standing
            → policy_at theory after place ≡ Some (edited_all standing edits)

      leaves_kept : (before after : List Context) → Kept before after → Leaves before [] after
      leaves_kept before after kept =
          record { paths = kept.paths; stands = λ at standing is. ap (λ policies. slice_get policies place) kept.policies ∙ is }

      leaves_on : (before between after : List Context) (edits more : List Edit) → Leaves before edits between → Leaves between more after
          → Leaves before (edits ++ more) after
      leaves_on before between after edits more first second =
          record {
            paths = second.paths ∙ first.paths;
            stands = λ at standing is.
                second.stands (ap (position (bytes_eq path)) first.paths ∙ at) (edited_all standing edits) (first.stands at standing is)
                ∙ ap Some (sym (fold-append edited standing edits more));
          }

      -- an edit of a context changes only its own constraints
      at_place : (before after : List Context) (at : ℕ) (edit : Edit) (answer : Result ℕ EditFault) (edits : EditsAt theory at before edit answer after)
          → policy_at theory after at ≡ Some (theory.conduct.policy_of edits.edited)
      at_place before after at edit answer edits =
          ap (λ contexts. policy_at theory contexts at) edits.is_after
          ∙ slice_get-map theory.conduct.policy_of (slice_set before at edits.edited) at
          ∙ ap (option_map theory.conduct.policy_of) (get_set before at edits.context edits.edited edits.there)

      beside_place : (before after : List Context) (at : ℕ) (edit : Edit) (answer : Result ℕ EditFault) → EditsAt theory at before edit answer after → place ≢ at
          → policy_at theory after place ≡ policy_at theory before place
      beside_place before after at edit answer edits apart =
          ap (λ contexts. policy_at theory contexts place) edits.is_after
          ∙ slice_get-map theory.conduct.policy_of (slice_set before at edits.edited) place
          ∙ ap (option_map theory.conduct.policy_of) (get_apart before at place edits.edited apart)
          ∙ sym (slice_get-map theory.conduct.policy_of before place)

      edited_here : (before after : List Context) (edit : Edit) (answer : Result ℕ EditFault) (standing : Standing) → EditsAt theory place before edit answer after
          → policy_at theory before place ≡ Some standing → policy_at theory after place ≡ Some (edited standing edit)
      edited_here before after edit answer standing edits is =
          let old : theory.conduct.policy_of edits.context ≡ standing =
          some_is (sym (slice_get-map theory.conduct.policy_of before place ∙ ap (option_map theory.conduct.policy_of) edits.there) ∙ is) in
          at_place before after place edit answer edits
          ∙ ap Some
          (stands_after (theory.conduct.policy_of edits.context) (theory.conduct.policy_of edits.edited) answer
          (edit_outcome (theory.conduct.policy_of edits.context) edit) (lawful.edits edits.context edits.edited edit answer edits.edits) edits.answers
          ∙ ap (λ s. edited s edit) old)

      edit_leaves : (found : Option ℕ) (before after : List Context) (other : List ℕ) (edit : Edit) (answer : Result ℕ EditFault)
          → place_with theory before other ≡ found → EditsIn theory found before edit answer after → Leaves before (edit_for path (Edited other edit)) after
      edit_leaves None before after other edit answer none edits =
          record { paths = ap (map theory.path_of) edits.1; stands = λ at standing is. by at standing is (bytes_eq path other) refl }
        where
          by : place_with theory before path ≡ Some place → (standing : Standing) → policy_at theory before place ≡ Some standing → (same : Bool)
              → bytes_eq path other ≡ same → policy_at theory after place ≡ Some (edited_all standing (cond same (edit ∷ []) []))
          by at standing is true same =
              let one : path ≡ other = (bytes_eq-Decides path other).0 same in
              let two : ◌≡◌ {A = Option ℕ} None (Some place) = sym none ∙ ap (λ p. place_with theory before p) (sym one) ∙ at in
              absurd (cc)
          by at standing is false same = ap (λ contexts. policy_at theory contexts place) edits.1 ∙ is
      edit_leaves (Some there) before after other edit answer some edits =
          record {
            paths =
                ap (map theory.path_of) edits.is_after
                ∙ same_map theory.path_of before there edits.context edits.edited edits.there (alone.path edits.context edits.edited edit answer edits.edits);
            stands = λ at standing is. by at standing is (bytes_eq path other) refl;
          }
        where
          by : place_with theory before path ≡ Some place → (standing : Standing) → policy_at theory before place ≡ Some standing → (same : Bool)
              → bytes_eq path other ≡ same → policy_at theory after place ≡ Some (edited_all standing (cond same (edit ∷ []) []))
          by at standing is true same =
              let one : path ≡ other = (bytes_eq-Decides path other).0 same in
              let here : there ≡ place = some_is (sym some ∙ ap (λ p. place_with theory before p) (sym one) ∙ at) in
              edited_here before after edit answer standing (subst (λ k. EditsAt theory k before edit answer after) here edits) is
          by at standing is false same =
              beside_place before after there edit answer edits
              (λ here. absurd (ends (pass_alike (map theory.path_of before) path other place at (some ∙ ap Some (sym here))) same))
              ∙ is
            where
              ends : bytes_eq path other ≡ true → bytes_eq path other ≡ false → ⊥
              ends is not = absurd (cc)

      happens_leaves : (before after : State Context Words) (happening : Happening) (effect : Effect Context)
          → Happens theory before happening effect after → Leaves before.world.contexts (edit_for path happening) after.world.contexts
      happens_leaves before after (Opened number) effect happens =
          leaves_kept before.world.contexts after.world.contexts
          (kept_same before.world.contexts after.world.contexts (ap (λ (s : State Context Words). s.world.contexts) happens.1))
      happens_leaves before after (Piece number bytes moment) effect happens =
          subst (λ cs. Leaves before.world.contexts [] cs) (sym (ap (λ (s : State Context Words). s.world.contexts) happens.is_after))
          (leaves_kept before.world.contexts happens.world.contexts (takes_keeps before.moment happens.items before.world happens.world effect happens.takes))
      happens_leaves before after (Ended number) effect happens =
          leaves_kept before.world.contexts after.world.contexts
          (kept_same before.world.contexts after.world.contexts (ap (λ (s : State Context Words). s.world.contexts) happens.1))
      happens_leaves before after (Lost number) effect happens =
          leaves_kept before.world.contexts after.world.contexts
          (kept_same before.world.contexts after.world.contexts (ap (λ (s : State Context Words). s.world.contexts) happens.1))
      happens_leaves before after (Tick moment) effect happens =
          leaves_kept before.world.contexts after.world.contexts
          (kept_same before.world.contexts after.world.contexts (ap (λ (s : State Context Words). s.world.contexts) happens.1))
      happens_leaves before after (Edited other edit) effect happens =
          subst (λ cs. Leaves before.world.contexts (edit_for path (Edited other edit)) cs) (sym (ap (λ (s : State Context Words). s.world.contexts) happens.is_after))
          (edit_leaves (place_with theory before.world.contexts other) before.world.contexts happens.contexts other edit happens.answer refl happens.edits)

      accepts_leaves : (before after : State Context Words) (happening : Happening) (effect : Effect Context)
          → Accepts theory before happening effect after → Leaves before.world.contexts (edit_for path happening) after.world.contexts
      accepts_leaves before after happening effect accepts =
          leaves_on before.world.contexts accepts.contexts after.world.contexts [] (edit_for path happening)
          (leaves_kept before.world.contexts accepts.contexts (expires_keeps before.world.contexts accepts.contexts _ accepts.told accepts.expires))
          (happens_leaves _ after happening accepts.brings accepts.happens)

      refused_leaves : (before between : State Context Words) (after : List Context) (happening : Happening) (fault : StepFault) (edits : List Edit)
          → fault_of before.connections happening ≡ Some fault → between ≡ before → Leaves between.world.contexts edits after
          → Leaves before.world.contexts (edit_for path happening ++ edits) after
      refused_leaves before between after happening fault edits is stays later =
          subst (λ es. Leaves before.world.contexts (es ++ edits) after) (sym (refused_edits_none path before.connections happening fault is))
          (subst (λ (s : State Context Words). Leaves s.world.contexts edits after) stays later)

      run_leaves : (before after : State Context Words) (happenings : List Happening) (answers : List (Answer Context))
          → Run theory before happenings answers after → after.stopped ≡ false → Leaves before.world.contexts (edits_of path happenings) after.world.contexts
      run_leaves before after [] [] run runs =
          leaves_kept before.world.contexts after.world.contexts
          (kept_same before.world.contexts after.world.contexts (ap (λ (s : State Context Words). s.world.contexts) run))
      run_leaves before after [] (answer ∷ answers) run runs = absurd run
      run_leaves before after (happening ∷ happenings) [] run runs = absurd run
      run_leaves before after (happening ∷ happenings) (Ok effect ∷ answers) run runs =
          leaves_on before.world.contexts run.0.world.contexts after.world.contexts (edit_for path happening) (edits_of path happenings)
          (accepts_leaves before run.0 happening effect run.1) (run_leaves run.0 after happenings answers run.2 runs)
      run_leaves before after (happening ∷ happenings) (Err Stopped ∷ answers) run runs =
          absurd (runs_on (stopped_stays theory run.0 after happenings answers run.2 (ap (λ (s : State Context Words). s.stopped) run.1.1 ∙ run.1.0)) runs)
      run_leaves before after (happening ∷ happenings) (Err BadConnection ∷ answers) run runs =
          refused_leaves before run.0 after.world.contexts happening BadConnection (edits_of path happenings) run.1.is_fault run.1.stays
          (run_leaves run.0 after happenings answers run.2 runs)
      run_leaves before after (happening ∷ happenings) (Err TooManyConnections ∷ answers) run runs =
          refused_leaves before run.0 after.world.contexts happening TooManyConnections (edits_of path happenings) run.1.is_fault run.1.stays
          (run_leaves run.0 after happenings answers run.2 runs)
      run_leaves before after (happening ∷ happenings) (Err NoMemory ∷ answers) run runs =
          absurd (runs_on (stopped_stays theory run.0 after happenings answers run.2 run.1.stops) runs)

pub constraints_change_by_edits_alone : {Context Words : Type 0} (theory : Theory Context Words) → EditsAlone theory.path_of theory.conduct
    → ChangesConstraintsByEdits theory → ConstraintsChangeByEditsAlone theory
constraints_change_by_edits_alone theory alone lawful before after happenings answers path place standing run runs at is =
    (run_leaves theory alone lawful path place before after happenings answers run runs).stands at standing is
