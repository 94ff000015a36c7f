-- One connection: it is opened, its pieces are taken in order, and it is closed or lost.
use Rattle.std.specs.Prelude.{◌≡◌, ◌⊎◌, ℕ, ◌≤◌, List, [], ◌∷◌, ◌++◌, map, MatchOption, Result, Ok, Err}
use Rattle.std.specs.List.{AllByRecursion}
use Rattle.sv_connection.specs.Turns.{Ending, GoesOn, IsEnding, Turn, all_calls, brought, last_answers, last_events, last_moments, moment_of, over_of, piece_of}
use Rattle.sv_streams.specs.declared.line_reader.TheConstants.{MAX_READS}
use Rattle.sv_connection.specs.declared.over.Over.{Over}
use Rattle.sv_run.specs.Events.{Happening, Opened}
use Rattle.sv_run.specs.Reacting.{Reacting, Reacts}
use Rattle.sv_run.specs.RunFault.{of_step}
use Rattle.sv_run.specs.declared.happening.Reaction.{Reaction}
use Rattle.sv_run.specs.declared.run_fault.RunFault.{RunFault}
use Rattle.sv_run.specs.declared.step_fault.StepFault.{StepFault}
use Rattle.sv_streams.specs.Calls.{AreMade, Call, Making, reads}

-- A clock gives these times, one after another.
abbrev pub AreTold : {C : Type 0} → (C → ℕ → C → Type 0) → C → List ℕ → C → Type 0
AreTold tells before [] after = after ≡ before
AreTold {C} tells before (moment ∷ moments) after = (between : C) × tells before moment between × AreTold tells between moments after

-- The result of a connection that ended in this way, given the result of its last event.
abbrev pub told_as : Over → Result Reaction StepFault → Result Over StepFault
told_as over (Ok reaction) = Ok over
told_as over (Err fault) = Err fault

-- What the caller of a connection gets: how it ended, or the fault of the run.
abbrev pub reported : Result Over StepFault → Result Over RunFault
reported (Ok over) = Ok over
reported (Err fault) = Err (of_step fault)

-- The result is how the connection ended, or the fault of a refused event.
abbrev pub IsResult : Ending → Result Reaction StepFault → Result Over StepFault → Type 0
IsResult ending last result =
    MatchOption (over_of ending) ((fault : StepFault) × (last ≡ Err fault) × (result ≡ Err fault)) (λ over. result ≡ told_as over last)

module _ {R S C : Type 0} (steps : Reacting R) (makes : Making S) (tells : C → ℕ → C → Type 0) where
  -- Events are taken, calls made and times given.
  pub record Talks (before : R) (stream : S) (clock : C) (events : List Happening) (answers : List (Result Reaction StepFault)) (calls : List Call)
      (moments : List ℕ) (after : R) (stream_after : S) (clock_after : C) : Type 0 where
    pub reacts : Reacts steps before events answers after
    pub are_made : AreMade makes stream calls stream_after
    pub are_told : AreTold tells clock moments clock_after

  module _ (connection : ℕ) (before : R) (stream : S) (clock : C) (result : Result Over StepFault) (after : R) (stream_after : S) (clock_after : C) where
    -- The opening is refused.
    pub record IsRefused : Type 0 where
      pub fault : StepFault
      pub talks : Talks before stream clock (Opened connection ∷ []) (Err fault ∷ []) [] [] after stream_after clock_after
      pub is_result : result ≡ Err fault

    -- The connection is opened, some turns go on, and then it ends.
    pub record IsServed : Type 0 where
      pub opening : Reaction
      pub turns : List Turn
      pub go_on : AllByRecursion GoesOn turns
      pub ending : Ending
      pub is_ending : IsEnding turns ending
      pub within : reads (all_calls turns ending) ≤ MAX_READS
      pub last : Result Reaction StepFault
      pub talks : Talks before stream clock
          (Opened connection ∷ (map (piece_of connection) turns ++ last_events connection ending))
          (Ok opening ∷ (map brought turns ++ last_answers ending last))
          (all_calls turns ending)
          (map moment_of turns ++ last_moments ending)
          after stream_after clock_after
      pub is_result : IsResult ending last result

    abbrev pub Connects : Type 0
    Connects = IsRefused ⊎ IsServed

  -- A connection is served, and its result is reported.
  abbrev pub RunsConnection : ℕ → R → S → C → Result Over RunFault → R → S → C → Type 0
  RunsConnection connection before stream clock result after stream_after clock_after =
      (ended : Result Over StepFault) × Connects connection before stream clock ended after stream_after clock_after × (result ≡ reported ended)
