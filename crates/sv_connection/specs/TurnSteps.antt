-- The steps of a turn.
use Rattle.std.specs.Prelude.{◌≡◌, ◌⊎◌, ◌≢◌, ℕ, false, true, [], ◌∷◌, Option, None, Some, Result, Ok, Err}
use Rattle.sv_connection.specs.Connection.{IsResult, Talks, told_as}
use Rattle.sv_connection.specs.Turns.{AtLimit, Ending, GoesOn, IsEnding, Turn, brought, calls_of, last_answers, last_calls, last_events, last_moments, moment_of, over_event, piece_of}
use Rattle.sv_connection.specs.declared.over.Over.{Over}
use Rattle.sv_connection.specs.declared.over.Over.TheVariants.{Closed, Lost}
use Rattle.sv_run.specs.Reacting.{Reacting}
use Rattle.sv_run.specs.declared.happening.Reaction.{Reaction}
use Rattle.sv_run.specs.declared.step_fault.StepFault.{StepFault}
use Rattle.sv_streams.specs.Calls.{Making, WritesAll}
use Rattle.sv_streams.specs.declared.stream.WriteFailed.{WriteFailed}

module _ {R : Type 0} (steps : Reacting R) (connection : ℕ) where
  -- The handler takes or refuses the event of a connection's end.
  abbrev pub TellsOver : R → Over → Result Over StepFault → R → Type 0
  TellsOver before over result after =
      (last : Result Reaction StepFault) × steps before (over_event connection over) last after × (result ≡ told_as over last)

  module _ {S : Type 0} (makes : Making S) where
    -- The bytes of a reaction are written, and the connection goes on or ends.
    abbrev pub Sends : R → S → Reaction → Option (Result Over StepFault) → R → S → Type 0
    Sends before stream reaction None after stream_after =
        WritesAll makes reaction.sends stream (Ok tt) stream_after × (reaction.closes ≡ false) × (after ≡ before)
    Sends before stream reaction (Some result) after stream_after =
        (WritesAll makes reaction.sends stream (Ok tt) stream_after × (reaction.closes ≡ true) × TellsOver before Closed result after)
        ⊎ ((failed : WriteFailed) × WritesAll makes reaction.sends stream (Err failed) stream_after × TellsOver before Lost result after)

    module _ {C : Type 0} (tells : C → ℕ → C → Type 0) (before : R) (stream : S) (clock : C) where
      -- A read and its effect: a turn that goes on, or the end of the connection.
      abbrev pub TakesTurn : Option (Result Over StepFault) → R → S → C → Type 0
      TakesTurn None after stream_after clock_after =
          (turn : Turn) × GoesOn turn
          × Talks steps makes tells before stream clock (piece_of connection turn ∷ []) (brought turn ∷ []) (calls_of turn) (moment_of turn ∷ [])
          after stream_after clock_after
      TakesTurn (Some result) after stream_after clock_after =
          (ending : Ending) × (last : Result Reaction StepFault) × (ending ≢ AtLimit) × IsEnding [] ending
          × Talks steps makes tells before stream clock (last_events connection ending) (last_answers ending last) (last_calls ending) (last_moments ending)
          after stream_after clock_after
          × IsResult ending last result
