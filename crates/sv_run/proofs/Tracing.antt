-- What each step of a run keeps, the run keeps.
use Rattle.std.proofs.Common.{◌≡◌, ℕ, Bool, true, false, List, [], ◌∷◌, ◌++◌, Option, Result, Ok, Err, sym, ap, ◌∙◌, subst}
use Rattle.sv_journal.specs.declared.entry.Entry.{Entry}
use Rattle.sv_policy.specs.declared.edit.Edit.{Edit}
use Rattle.sv_policy.specs.declared.edit_fault.EditFault.{EditFault}
use Rattle.sv_run.specs.Contexts.{Handling, Theory}
use Rattle.sv_run.specs.Editing.{EditsIn, place_with}
use Rattle.sv_run.specs.Effect.{Answered, Deed, Effect, Handled}
use Rattle.sv_run.specs.Events.{Accepts, Edited, Ended, ExpiresAll, Happening, Happens, Lost, Opened, Piece, Tick}
use Rattle.sv_run.specs.Items.{HandlesAt, Responds, Takes, TakesItem}
use Rattle.sv_run.specs.Messages.{Destination, Itself, Within, destination}
use Rattle.sv_run.specs.Runs.{Answer, Run, deeds_of}
use Rattle.sv_run.specs.State.{State, World}
use Rattle.sv_run.specs.declared.step_fault.StepFault.TheVariants.{Stopped, BadConnection, TooManyConnections, NoMemory}
use Rattle.sv_run.proofs.Taking.{either}
use Rattle.sv_wire.specs.declared.item.Item.{Item}
use Rattle.sv_wire.specs.declared.item.Item.TheVariants.{Continue, Message, Refuse}
use Rattle.sv_message.specs.declared.message.Message.{Message as MessageRecord}

-- no container is both stopped and running
pub runs_on : {b : Bool} → b ≡ true → b ≡ false → ⊥
runs_on is not = absurd (cc)

-- a container that is stopped stays stopped
pub stopped_stays : {Context Words : Type 0} (theory : Theory Context Words) (before after : State Context Words) (happenings : List Happening) (answers : List (Answer Context))
    → Run theory before happenings answers after → before.stopped ≡ true → after.stopped ≡ true
stopped_stays theory before after [] [] run stopped = ap (λ s. s.stopped) run ∙ stopped
stopped_stays theory before after [] (answer ∷ answers) run stopped = absurd run
stopped_stays theory before after (happening ∷ happenings) [] run stopped = absurd run
stopped_stays theory before after (happening ∷ happenings) (Ok effect ∷ answers) run stopped = absurd (runs_on stopped run.1.runs)
stopped_stays {Context} {Words} theory before after (happening ∷ happenings) (Err Stopped ∷ answers) run stopped =
    stopped_stays theory run.0 after happenings answers run.2 (ap (λ (s : State Context Words). s.stopped) run.1.1 ∙ stopped)
stopped_stays theory before after (happening ∷ happenings) (Err BadConnection ∷ answers) run stopped = absurd (runs_on stopped run.1.runs)
stopped_stays theory before after (happening ∷ happenings) (Err TooManyConnections ∷ answers) run stopped = absurd (runs_on stopped run.1.runs)
stopped_stays theory before after (happening ∷ happenings) (Err NoMemory ∷ answers) run stopped = absurd (runs_on stopped run.1.runs)

-- A property of the contexts before and after some deeds, which each step of a run has.
pub record IsKept {Context Words : Type 0} (theory : Theory Context Words) (P : List Context → List (Deed Context) → List Context → Type 0) : Type 0 where
  pub none : (contexts : List Context) → P contexts [] contexts
  pub both : (before between after : List Context) (deeds more : List (Deed Context)) → P before deeds between → P between more after
      → P before (deeds ++ more) after
  pub answered : (contexts : List Context) (entry : Entry) → P contexts (Answered entry ∷ []) contexts
  pub handled : (moment place : ℕ) (before after : List Context) (handling : Handling Context) → HandlesAt theory moment place before handling after
      → P before (Handled place handling ∷ []) after
  pub edited : (found : Option ℕ) (before after : List Context) (edit : Edit) (answer : Result ℕ EditFault) → EditsIn theory found before edit answer after
      → P before [] after
  pub expired : (before after : List Context) (moment : ℕ) (told : List Entry) → ExpiresAll theory.conduct before moment told after → P before [] after

module _ {Context Words : Type 0} (theory : Theory Context Words) (P : List Context → List (Deed Context) → List Context → Type 0) (kept : IsKept theory P) where
  same_so : (before after : List Context) → after ≡ before → P before [] after
  same_so before after same = subst (λ cs. P before [] cs) (sym same) (kept.none before)

  -- a message that the container answers itself
  answered_so : (before after : List Context) (entry : Entry) → after ≡ before → P before (Answered entry ∷ []) after
  answered_so before after entry same = subst (λ cs. P before (Answered entry ∷ []) cs) (sym same) (kept.answered before entry)

  kept_responds : (moment : ℕ) (to : Destination) (message : MessageRecord) (words : ℕ × ℕ) (before after : List Context) (effect : Effect Context)
      → Responds theory moment to message words before effect after → P before effect.deeds after
  kept_responds moment (Itself entry response) message words before after effect responds =
      subst (λ (e : Effect Context). P before e.deeds after) (sym responds.2) (answered_so before after entry responds.3)
  kept_responds moment (Within other canon) message words before after effect responds =
      subst (λ (e : Effect Context). P before e.deeds after) (sym responds.5) (kept.handled moment other before after responds.0 responds.3)

  kept_item : (moment : ℕ) (item : Item) (before after : World Context Words) (effect : Effect Context)
      → TakesItem theory moment item before effect after → P before.contexts effect.deeds after.contexts
  kept_item moment Continue before after effect takes =
      subst (λ (e : Effect Context). P before.contexts e.deeds after.contexts) (sym takes.0)
      (same_so before.contexts after.contexts (ap (λ (w : World Context Words). w.contexts) takes.1))
  kept_item moment (Refuse fault) before after effect takes =
      subst (λ (e : Effect Context). P before.contexts e.deeds after.contexts) (sym takes.2)
      (answered_so before.contexts after.contexts _ (ap (λ (w : World Context Words). w.contexts) takes.3))
  kept_item moment (Message message) before after effect takes =
      kept_responds moment (destination theory before.contexts message.target) message takes.0 before.contexts after.contexts effect takes.2

  kept_takes : (moment : ℕ) (items : List Item) (before after : World Context Words) (effect : Effect Context)
      → Takes theory moment items before effect after → P before.contexts effect.deeds after.contexts
  kept_takes moment [] before after effect takes =
      subst (λ (e : Effect Context). P before.contexts e.deeds after.contexts) (sym takes.0)
      (same_so before.contexts after.contexts (ap (λ (w : World Context Words). w.contexts) takes.1))
  kept_takes moment (item ∷ items) before after effect takes =
      subst (λ (e : Effect Context). P before.contexts e.deeds after.contexts) (sym takes.5)
      (kept.both before.contexts takes.0.contexts after.contexts takes.1.deeds takes.2.deeds
      (kept_item moment item before takes.0 takes.1 takes.3)
      (either takes.1.closes takes.4
      (λ none. subst (λ (e : Effect Context). P takes.0.contexts e.deeds after.contexts) (sym none.0)
      (same_so takes.0.contexts after.contexts (ap (λ (w : World Context Words). w.contexts) none.1)))
      (λ rest. kept_takes moment items takes.0 after takes.2 rest)))

  kept_happens : (before after : State Context Words) (happening : Happening) (effect : Effect Context)
      → Happens theory before happening effect after → P before.world.contexts effect.deeds after.world.contexts
  kept_happens before after (Opened other) effect happens =
      subst (λ ds. P before.world.contexts ds after.world.contexts) (sym (ap (λ (e : Effect Context). e.deeds) happens.0))
      (same_so before.world.contexts after.world.contexts (ap (λ (s : State Context Words). s.world.contexts) happens.1))
  kept_happens before after (Piece other bytes moment) effect happens =
      subst (λ cs. P before.world.contexts effect.deeds cs) (sym (ap (λ (s : State Context Words). s.world.contexts) happens.is_after))
      (kept_takes before.moment happens.items before.world happens.world effect happens.takes)
  kept_happens before after (Ended other) effect happens =
      subst (λ ds. P before.world.contexts ds after.world.contexts) (sym (ap (λ (e : Effect Context). e.deeds) happens.0))
      (same_so before.world.contexts after.world.contexts (ap (λ (s : State Context Words). s.world.contexts) happens.1))
  kept_happens before after (Lost other) effect happens =
      subst (λ ds. P before.world.contexts ds after.world.contexts) (sym (ap (λ (e : Effect Context). e.deeds) happens.0))
      (same_so before.world.contexts after.world.contexts (ap (λ (s : State Context Words). s.world.contexts) happens.1))
  kept_happens before after (Tick moment) effect happens =
      subst (λ ds. P before.world.contexts ds after.world.contexts) (sym (ap (λ (e : Effect Context). e.deeds) happens.0))
      (same_so before.world.contexts after.world.contexts (ap (λ (s : State Context Words). s.world.contexts) happens.1))
  kept_happens before after (Edited path edit) effect happens =
      subst (λ ds. P before.world.contexts ds after.world.contexts) (sym (ap (λ (e : Effect Context). e.deeds) happens.brings))
      (subst (λ cs. P before.world.contexts [] cs) (sym (ap (λ (s : State Context Words). s.world.contexts) happens.is_after))
      (kept.edited (place_with theory before.world.contexts path) before.world.contexts happens.contexts edit happens.answer happens.edits))

  kept_accepts : (before after : State Context Words) (happening : Happening) (effect : Effect Context)
      → Accepts theory before happening effect after → P before.world.contexts effect.deeds after.world.contexts
  kept_accepts before after happening effect accepts =
      subst (λ (e : Effect Context). P before.world.contexts e.deeds after.world.contexts) (sym accepts.is_joined)
      (kept.both before.world.contexts accepts.contexts after.world.contexts [] accepts.brings.deeds
      (kept.expired before.world.contexts accepts.contexts _ accepts.told accepts.expires)
      (kept_happens _ after happening accepts.brings accepts.happens))

  pub kept_run : (before after : State Context Words) (happenings : List Happening) (answers : List (Answer Context))
      → Run theory before happenings answers after → after.stopped ≡ false → P before.world.contexts (deeds_of answers) after.world.contexts
  kept_run before after [] [] run runs = same_so before.world.contexts after.world.contexts (ap (λ (s : State Context Words). s.world.contexts) run)
  kept_run before after [] (answer ∷ answers) run runs = absurd run
  kept_run before after (happening ∷ happenings) [] run runs = absurd run
  kept_run before after (happening ∷ happenings) (Ok effect ∷ answers) run runs =
      kept.both before.world.contexts run.0.world.contexts after.world.contexts effect.deeds (deeds_of answers)
      (kept_accepts before run.0 happening effect run.1) (kept_run run.0 after happenings answers run.2 runs)
  kept_run before after (happening ∷ happenings) (Err Stopped ∷ answers) run runs =
      subst (λ (s : State Context Words). P s.world.contexts (deeds_of answers) after.world.contexts) run.1.1 (kept_run run.0 after happenings answers run.2 runs)
  kept_run before after (happening ∷ happenings) (Err BadConnection ∷ answers) run runs =
      subst (λ (s : State Context Words). P s.world.contexts (deeds_of answers) after.world.contexts) run.1.stays (kept_run run.0 after happenings answers run.2 runs)
  kept_run before after (happening ∷ happenings) (Err TooManyConnections ∷ answers) run runs =
      subst (λ (s : State Context Words). P s.world.contexts (deeds_of answers) after.world.contexts) run.1.stays (kept_run run.0 after happenings answers run.2 runs)
  kept_run before after (happening ∷ happenings) (Err NoMemory ∷ answers) run runs =
      absurd (runs_on (stopped_stays theory run.0 after happenings answers run.2 run.1.stops) runs)
