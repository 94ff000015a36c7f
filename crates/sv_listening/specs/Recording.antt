-- Writing the entries of an event to the journal.
use Rattle.std.specs.Prelude.{◌≡◌, ◌⊎◌, ℕ, ◌+◌, ◌-◌, ◌^◌, ◌==◌, min, List, length, Option, Result, Ok, Err, if◌then◌else◌}
use Rattle.std.specs.Bool.{MatchBool}
use Rattle.sv_journal.specs.declared.entry.Entry.{Entry}
use Rattle.sv_listening.specs.Lines.{recorded_text}
use Rattle.sv_run.specs.Events.{Happening, connection_of, moment_after}
use Rattle.sv_run.specs.declared.happening.Reaction.{Reaction}
use Rattle.sv_run.specs.declared.step_fault.StepFault.{StepFault}
use Rattle.sv_streams.specs.Calls.{Making, write_call}
use Rattle.sv_streams.specs.declared.stream.WriteFailed.{WriteFailed}

-- The output, the number of events with lost entries since a complete write, and the time.
pub record Recorded (O : Type 0) : Type 0 where
  pub output : O
  pub lost : ℕ
  pub moment : ℕ

-- The time moves to the one after an event.
abbrev pub at_moment : {O : Type 0} → Happening → Recorded O → Recorded O
at_moment happening recorded = record recorded { moment = moment_after recorded.moment happening }

-- One more lost event, as far as these are counted.
abbrev pub one_more : ℕ → ℕ
one_more lost = min (lost + 1) (2 ^ 64 - 1)

-- A complete write leaves no event lost. Any other write loses its event.
abbrev pub lost_by : ℕ → List ℕ → Result ℕ WriteFailed → ℕ
lost_by lost text (Ok count) = if count == length text then 0 else one_more lost
lost_by lost text (Err failed) = one_more lost

module _ {O : Type 0} (makes : Making O) where
  -- The text is written by one call.
  abbrev pub WritesOnce : List ℕ → Recorded O → Recorded O → Type 0
  WritesOnce text before after =
      (answer : Result ℕ WriteFailed) × makes before.output (write_call answer text) after.output
      × (after ≡ record before { output = after.output; lost = lost_by before.lost text answer })

  -- Entries are written by one call. If memory runs out, they are lost without a call.
  abbrev pub WritesEntries : Option ℕ → List Entry → Recorded O → Recorded O → Type 0
  WritesEntries connection entries before after =
      WritesOnce (recorded_text before.lost before.moment connection entries) before after ⊎ (after ≡ record before { lost = one_more before.lost })

  -- There is no call without entries.
  abbrev pub Writes : Option ℕ → List Entry → Recorded O → Recorded O → Type 0
  Writes connection entries before after = MatchBool (length entries == 0) (after ≡ before) (WritesEntries connection entries before after)

  -- The entries of an event are written, with the time after it.
  abbrev pub Records : Happening → Result Reaction StepFault → Recorded O → Recorded O → Type 0
  Records happening (Ok reaction) before after = Writes (connection_of happening) reaction.journal.entries (at_moment happening before) after
  Records happening (Err fault) before after = after ≡ at_moment happening before
