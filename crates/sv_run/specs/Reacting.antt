-- Handlers of a container's events, one by one.
use Rattle.std.specs.Prelude.{◌≡◌, List, [], ◌∷◌, map, Result, Ok, Err}
use Rattle.sv_run.specs.Contexts.{Theory}
use Rattle.sv_run.specs.Effect.{shown}
use Rattle.sv_run.specs.Events.{Happening, Steps}
use Rattle.sv_run.specs.Runs.{Answer, Run}
use Rattle.sv_run.specs.State.{State}
use Rattle.sv_run.specs.declared.happening.Reaction.{Reaction}
use Rattle.sv_run.specs.declared.step_fault.StepFault.{StepFault}

-- how an event is handled: the handler before it, the event, its reaction or fault, and the handler after it
abbrev pub Reacting : Type 0 → Type 1
Reacting R = R → Happening → Result Reaction StepFault → R → Type 0

-- the events are handled one after another, each with its answer
abbrev pub Reacts : {R : Type 0} → Reacting R → R → List Happening → List (Result Reaction StepFault) → R → Type 0
Reacts steps before [] [] after = after ≡ before
Reacts {R} steps before (happening ∷ happenings) (answer ∷ answers) after =
    (between : R) × steps before happening answer between × Reacts steps between happenings answers after
Reacts steps before [] (answer ∷ answers) after = ⊥
Reacts steps before (happening ∷ happenings) [] after = ⊥

-- the visible part of an answer
abbrev pub answer_shown : {Context : Type 0} → Answer Context → Result Reaction StepFault
answer_shown (Ok effect) = Ok (shown effect)
answer_shown (Err fault) = Err fault

module _ {R Context Words : Type 0} (steps : Reacting R) (theory : Theory Context Words) where
  -- each event is handled as the run of a container specifies, and the reaction shows its answer
  abbrev pub StepsLike : (R → State Context Words) → Type 0
  StepsLike state_of =
      (before after : R) (happening : Happening) (result : Result Reaction StepFault) → steps before happening result after
      → (answer : Answer Context) × Steps theory (state_of before) happening answer (state_of after) × (result ≡ answer_shown answer)

  -- if each event is handled so, the events one after another are a run
  abbrev pub ReactionsAreARun : Type 0
  ReactionsAreARun =
      (state_of : R → State Context Words) → StepsLike state_of
      → (before after : R) (happenings : List Happening) (results : List (Result Reaction StepFault)) → Reacts steps before happenings results after
      → (answers : List (Answer Context)) × Run theory (state_of before) happenings answers (state_of after) × (results ≡ map answer_shown answers)
