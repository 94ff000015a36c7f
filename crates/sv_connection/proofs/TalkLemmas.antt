-- Joining events, calls and times with later ones.
use Rattle.std.proofs.Common.{ℕ, List, [], ◌∷◌, ◌++◌, Result, subst}
use Rattle.sv_connection.specs.Connection.{AreTold, Talks}
use Rattle.sv_run.specs.Events.{Happening}
use Rattle.sv_run.specs.Reacting.{Reacting}
use Rattle.sv_run.specs.declared.happening.Reaction.{Reaction}
use Rattle.sv_run.specs.declared.step_fault.StepFault.{StepFault}
use Rattle.sv_streams.specs.Calls.{Call, Making}
use Rattle.sv_run.proofs.Reactions.{reacts_join}
use Rattle.sv_streams.proofs.CallJoins.{made_join}

told_join : {C : Type 0} (tells : C → ℕ → C → Type 0) (before between after : C) (moments more : List ℕ)
    → AreTold tells before moments between → AreTold tells between more after → AreTold tells before (moments ++ more) after
told_join {C} tells before between after [] more is later = let P : C → Type 0 = λ c. AreTold tells c more after in subst P is later
told_join tells before between after (moment ∷ moments) more (middle, told, front) later =
    (middle, told, told_join tells middle between after moments more front later)

pub talks_join : {R S C : Type 0} (steps : Reacting R) (makes : Making S) (tells : C → ℕ → C → Type 0)
    (before between after : R) (stream stream_between stream_after : S) (clock clock_between clock_after : C)
    (events more : List Happening) (answers others : List (Result Reaction StepFault)) (calls further : List Call) (moments later : List ℕ)
    → Talks steps makes tells before stream clock events answers calls moments between stream_between clock_between
    → Talks steps makes tells between stream_between clock_between more others further later after stream_after clock_after
    → Talks steps makes tells before stream clock (events ++ more) (answers ++ others) (calls ++ further) (moments ++ later) after stream_after clock_after
talks_join steps makes tells before between after stream stream_between stream_after clock clock_between clock_after
    events more answers others calls further moments later first second =
    record {
      reacts = reacts_join steps before between after events more answers others first.reacts second.reacts;
      are_made = made_join makes stream stream_between stream_after calls further first.are_made second.are_made;
      are_told = told_join tells clock clock_between clock_after moments later first.are_told second.are_told;
    }
