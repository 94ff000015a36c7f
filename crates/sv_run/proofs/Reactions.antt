-- Events that follow other events.
use Rattle.std.proofs.Common.{◌≡◌, List, [], ◌∷◌, ◌++◌, Result, map, refl, subst, ap, ◌∙◌}
use Rattle.sv_run.specs.Contexts.{Theory}
use Rattle.sv_run.specs.Events.{Happening}
use Rattle.sv_run.specs.Reacting.{Reacting, Reacts, StepsLike, answer_shown}
use Rattle.sv_run.specs.Runs.{Answer, Run}
use Rattle.sv_run.specs.State.{State}
use Rattle.sv_run.specs.declared.happening.Reaction.{Reaction}
use Rattle.sv_run.specs.declared.step_fault.StepFault.{StepFault}

pub reacts_join : {R : Type 0} (steps : Reacting R) (before between after : R) (events more : List Happening) (answers others : List (Result Reaction StepFault))
    → Reacts steps before events answers between → Reacts steps between more others after → Reacts steps before (events ++ more) (answers ++ others) after
reacts_join {R} steps before between after [] more [] others is later = let P : R → Type 0 = λ r. Reacts steps r more others after in subst P is later
reacts_join steps before between after (event ∷ events) more (answer ∷ answers) others (middle, step, front) later =
    (middle, step, reacts_join steps middle between after events more answers others front later)
reacts_join steps before between after [] more (answer ∷ answers) others none later = absurd none
reacts_join steps before between after (event ∷ events) more [] others none later = absurd none

pub run_of : {R Context Words : Type 0} (steps : Reacting R) (theory : Theory Context Words) (state_of : R → State Context Words) → StepsLike steps theory state_of
    → (before after : R) (happenings : List Happening) (results : List (Result Reaction StepFault)) → Reacts steps before happenings results after
    → (answers : List (Answer Context)) × Run theory (state_of before) happenings answers (state_of after) × (results ≡ map answer_shown answers)
run_of steps theory state_of like before after [] [] is = ([], ap state_of is, refl)
run_of steps theory state_of like before after (happening ∷ happenings) (result ∷ results) (between, step, later) =
    let first = like before between happening result step in
    let rest = run_of steps theory state_of like between after happenings results later in
    (first.0 ∷ rest.0, (state_of between, first.1, rest.1), ap (λ r. r ∷ results) first.2 ∙ ap (λ rs. answer_shown first.0 ∷ rs) rest.2)
run_of steps theory state_of like before after [] (result ∷ results) none = absurd none
run_of steps theory state_of like before after (happening ∷ happenings) [] none = absurd none
