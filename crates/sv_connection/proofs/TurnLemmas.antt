-- The effect of a piece.
use Rattle.std.proofs.Common.{ℕ, ◌<◌, List, Option, None, Some, Ok, Err, Result, refl, subst, inl, inr, length}
use Rattle.sv_connection.specs.Turns.{AtClose, AtFailedWrite, AtRefusal}
use Rattle.sv_connection.specs.TurnSteps.{Sends, TakesTurn}
use Rattle.sv_connection.specs.declared.over.Over.{Over}
use Rattle.sv_run.specs.Events.{Piece}
use Rattle.sv_run.specs.Reacting.{Reacting}
use Rattle.sv_run.specs.declared.happening.Reaction.{Reaction}
use Rattle.sv_run.specs.declared.step_fault.StepFault.{StepFault}
use Rattle.sv_streams.specs.Calls.{AreMade, Call, Gave, Making}

module _ {R S C : Type 0} (steps : Reacting R) (connection : ℕ) (makes : Making S) (tells : C → ℕ → C → Type 0) (before : R) (stream : S) (clock : C) where
  module _ (bytes : List ℕ) (moment : ℕ) (taken_by : R) (stream_read : S) (clock_after : C) (some : 0 < length bytes)
      (read : makes stream (Gave bytes) stream_read) (told : tells clock moment clock_after) where
    -- The piece was refused.
    pub piece_refused : (fault : StepFault) → steps before (Piece connection bytes moment) (Err fault) taken_by
        → TakesTurn steps connection makes tells before stream clock (Some (Err fault)) taken_by stream_read clock_after
    piece_refused fault step = (
      AtRefusal bytes moment,
      Err fault,
      (λ same. cc),
      some,
      record { reacts = (taken_by, step, refl); are_made = (stream_read, read, refl); are_told = (clock_after, told, refl) },
      (fault, refl, refl),
    )

    -- The piece was taken, and the bytes of its reaction were written or a write failed.
    pub piece_taken : (reaction : Reaction) (after : R) (stream_after : S) (result : Option (Result Over StepFault))
        → steps before (Piece connection bytes moment) (Ok reaction) taken_by
        → Sends steps connection makes taken_by stream_read reaction result after stream_after
        → TakesTurn steps connection makes tells before stream clock result after stream_after clock_after
    piece_taken reaction after stream_after None step ((parts, calls, made, (are, is)), stays_open, same) =
        let P : List Call → Type 0 = λ others. AreMade makes stream_read others stream_after in (
          record { bytes = bytes; moment = moment; reaction = reaction; parts = parts },
          record { whole = record { some = some; is_written = is }; stays_open = stays_open },
          record { reacts = (taken_by, step, same); are_made = (stream_read, read, subst P are made); are_told = (clock_after, told, refl) },
        )
    piece_taken reaction after stream_after (Some result) step (inl ((parts, calls, made, (are, is)), closes, (last, last_step, is_result))) =
        let P : List Call → Type 0 = λ others. AreMade makes stream_read others stream_after in (
          AtClose (record { bytes = bytes; moment = moment; reaction = reaction; parts = parts }),
          last,
          (λ same. cc),
          (record { some = some; is_written = is }, closes),
          record {
            reacts = (taken_by, step, (after, last_step, refl));
            are_made = (stream_read, read, subst P are made);
            are_told = (clock_after, told, refl);
          },
          is_result,
        )
    piece_taken reaction after stream_after (Some result) step (inr (failed, (parts, calls, made, (rest, are, is, left)), (last, last_step, is_result))) =
        let P : List Call → Type 0 = λ others. AreMade makes stream_read others stream_after in (
          AtFailedWrite (record { bytes = bytes; moment = moment; reaction = reaction; parts = parts }),
          last,
          (λ same. cc),
          (rest, record { some = some; is_written = is; left = left }),
          record {
            reacts = (taken_by, step, (after, last_step, refl));
            are_made = (stream_read, read, subst P are made);
            are_told = (clock_after, told, refl);
          },
          is_result,
        )
