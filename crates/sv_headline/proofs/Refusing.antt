-- A run that runs out of memory is a run up to the event that failed.
use Rattle.std.proofs.Common.{◌≡◌, ℕ, Bool, true, false, List, [], ◌∷◌, ◌++◌, Ok, Err, refl, sym, ap, ◌∙◌, subst}
use Rattle.std.specs.Bool.{MatchBool}
use Rattle.std.specs.List.{AllByRecursion}
use Rattle.sv_component.specs.Steps.{ComponentSteps}
use Rattle.sv_headline.specs.Record.{EveryRunIsLawful, IsLawfulRun}
use Rattle.sv_headline.specs.Until.{EveryRunIsLawfulUntilRefused, IsLawfulUpTo}
use Rattle.sv_context.specs.State.{ContextState}
use Rattle.sv_context.specs.Theory as contexts
use Rattle.sv_run.proofs.Tracing.{runs_on}
use Rattle.sv_run.proofs.Refusals.{accepted_runs}
use Rattle.sv_run.specs.Contexts.{Theory}
use Rattle.sv_run.specs.Events.{Breaks, Happening}
use Rattle.sv_run.specs.Laws.{WantOfMemoryStops}
use Rattle.sv_run.specs.Runs.{Answer, Run}
use Rattle.sv_run.specs.State.{State}
use Rattle.sv_run.specs.declared.step_fault.StepFault.TheVariants.{Stopped, BadConnection, TooManyConnections, NoMemory}

module _ {Context Words : Type 0} (theory : Theory Context Words) where
  -- an event ran out of memory, and none before it did
  record IsRefusedAt (before : State Context Words) (happenings : List Happening) (answers : List (Answer Context)) (after : State Context Words) : Type 0 where
    pub front : List Happening
    pub wanting : Happening
    pub behind : List Happening
    pub are : happenings ≡ front ++ wanting ∷ behind
    pub answered : List (Answer Context)
    pub refused : List (Answer Context)
    pub are_answered : answers ≡ answered ++ Err NoMemory ∷ refused
    pub between : State Context Words
    pub runs : Run theory before front answered between
    pub goes_on : between.stopped ≡ false
    pub breaks : Breaks theory between wanting after
    pub refuses : AllByRecursion (λ answer. answer ≡ Err Stopped) refused

  -- one more event in front
  one_more : (before between after : State Context Words) (happening : Happening) (answer : Answer Context) (happenings : List Happening)
      (answers : List (Answer Context)) → IsRefusedAt between happenings answers after
      → ((at : IsRefusedAt between happenings answers after) → Run theory before (happening ∷ at.front) (answer ∷ at.answered) at.between)
      → IsRefusedAt before (happening ∷ happenings) (answer ∷ answers) after
  one_more before between after happening answer happenings answers at run = record {
    front = happening ∷ at.front;
    wanting = at.wanting;
    behind = at.behind;
    are = ap (λ rest. happening ∷ rest) at.are;
    answered = answer ∷ at.answered;
    refused = at.refused;
    are_answered = ap (λ rest. answer ∷ rest) at.are_answered;
    between = at.between;
    runs = run at;
    goes_on = at.goes_on;
    breaks = at.breaks;
    refuses = at.refuses;
  }

  refused_at : WantOfMemoryStops theory → (before after : State Context Words) (happenings : List Happening) (answers : List (Answer Context))
      → before.stopped ≡ false → after.stopped ≡ true → Run theory before happenings answers after → IsRefusedAt before happenings answers after
  refused_at law before after [] [] runs stops run = absurd (runs_on (sym (ap (λ (state : State Context Words). state.stopped) run) ∙ stops) runs)
  refused_at law before after [] (answer ∷ answers) runs stops run = absurd run
  refused_at law before after (happening ∷ happenings) [] runs stops run = absurd run
  refused_at law before after (happening ∷ happenings) (Ok effect ∷ answers) runs stops run =
      one_more before run.0 after happening (Ok effect) happenings answers
      (refused_at law run.0 after happenings answers (accepted_runs theory before run.0 happening effect run.1) stops run.2) (λ at. (run.0, run.1, at.runs))
  refused_at law before after (happening ∷ happenings) (Err Stopped ∷ answers) runs stops run = absurd (runs_on run.1.0 runs)
  refused_at law before after (happening ∷ happenings) (Err BadConnection ∷ answers) runs stops run =
      one_more before run.0 after happening (Err BadConnection) happenings answers
      (refused_at law run.0 after happenings answers (ap (λ (state : State Context Words). state.stopped) run.1.stays ∙ runs) stops run.2)
      (λ at. (run.0, run.1, at.runs))
  refused_at law before after (happening ∷ happenings) (Err TooManyConnections ∷ answers) runs stops run =
      one_more before run.0 after happening (Err TooManyConnections) happenings answers
      (refused_at law run.0 after happenings answers (ap (λ (state : State Context Words). state.stopped) run.1.stays ∙ runs) stops run.2)
      (λ at. (run.0, run.1, at.runs))
  refused_at law before after (happening ∷ happenings) (Err NoMemory ∷ answers) runs stops run =
      let rest = law before run.0 after happening happenings answers run.1 run.2 in
      record {
        front = [];
        wanting = happening;
        behind = happenings;
        are = refl;
        answered = [];
        refused = answers;
        are_answered = refl;
        between = before;
        runs = refl;
        goes_on = runs;
        breaks = subst (Breaks theory before happening) (sym rest.1) run.1;
        refuses = rest.0;
      }

module _ {S F L Words : Type 0} (moving : ComponentSteps S F L) (draws : Words → ℕ × ℕ → Words → Type 0)
    (law : EveryRunIsLawful moving draws) (stops : WantOfMemoryStops (contexts.theory moving draws)) where
  up_to : (before after : State (ContextState S F L) Words) (happenings : List Happening) (answers : List (Answer (ContextState S F L)))
      → IsRefusedAt (contexts.theory moving draws) before happenings answers after → IsLawfulUpTo moving draws before happenings answers after
  up_to before after happenings answers at = record {
    front = at.front;
    wanting = at.wanting;
    behind = at.behind;
    are = at.are;
    answered = at.answered;
    refused = at.refused;
    are_answered = at.are_answered;
    between = at.between;
    runs = at.runs;
    lawful = law before at.between at.front at.answered at.runs at.goes_on;
    breaks = at.breaks;
    refuses = at.refuses;
  }

  pub until_refused : EveryRunIsLawfulUntilRefused moving draws
  until_refused before after happenings answers runs run =
      by_stop after.stopped refl
    where
      by_stop : (stopped : Bool) → after.stopped ≡ stopped
          → MatchBool stopped (IsLawfulUpTo moving draws before happenings answers after) (IsLawfulRun moving draws before happenings answers after)
      by_stop true is = up_to before after happenings answers (refused_at (contexts.theory moving draws) stops before after happenings answers runs is run)
      by_stop false is = law before after happenings answers run is
