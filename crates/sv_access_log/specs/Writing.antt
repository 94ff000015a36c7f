-- Writing the lines of an event.
use Rattle.std.specs.Prelude.{◌≡◌, ◌⊎◌, ℕ, ◌+◌, ◌-◌, ◌^◌, ◌==◌, min, Bool, true, false, ◌||◌, not, List, [], ◌++◌, codes, length, Result, Ok, Err, if◌then◌else◌}
use Rattle.std.specs.Bool.{MatchBool}
use Rattle.sv_access_log.specs.Answered.{Answered, event_lines}
use Rattle.sv_access_log.specs.declared.circumstances.LogFormat.{LogFormat}
use Rattle.sv_access_log.specs.declared.event_lines.Scene.{Scene}
use Rattle.sv_journal.specs.declared.entry.Entry.{Entry}
use Rattle.sv_run.specs.Events.{Happening, moment_after}
use Rattle.sv_run.specs.declared.happening.Reaction.{Reaction}
use Rattle.sv_run.specs.declared.step_fault.StepFault.{StepFault}
use Rattle.sv_streams.specs.Calls.{Making, write_call}
use Rattle.sv_streams.specs.declared.stream.WriteFailed.{WriteFailed}
use Rattle.sv_wire.specs.ResponseText.{IsDateAt}

-- The output, the format of its lines, the number of lines that were lost, whether the output may end within a line, and the time.
pub record LogState (O : Type 0) : Type 0 where
  pub output : O
  pub format : LogFormat
  pub lost : ℕ
  pub torn : Bool
  pub moment : ℕ

-- The time moves to the one after an event.
abbrev pub at_moment : {O : Type 0} → Happening → LogState O → LogState O
at_moment happening log = record log { moment = moment_after log.moment happening }

-- So many more lost lines, as far as these are counted.
abbrev pub more_lost : ℕ → ℕ → ℕ
more_lost lost count = min (lost + count) (2 ^ 64 - 1)

-- So many lines are lost without a write.
abbrev pub losing : {O : Type 0} → ℕ → LogState O → LogState O
losing count log = record log { lost = more_lost log.lost count }

-- The text of the lines: a line that may have been cut is ended first.
abbrev pub written_text : Bool → List ℕ → List ℕ
written_text torn lines = (if torn then codes "\n" else []) ++ lines

-- A write that takes only a part of the text, or fails, loses the text's lines.
abbrev pub lost_by : ℕ → ℕ → List ℕ → Result ℕ WriteFailed → ℕ
lost_by lost count text (Ok taken) = if taken == length text then lost else more_lost lost count
lost_by lost count text (Err failed) = more_lost lost count

-- A write that takes only a part of the text may end within a line. A write that fails takes nothing.
abbrev pub torn_by : Bool → List ℕ → Result ℕ WriteFailed → Bool
torn_by torn text (Ok taken) = not (taken == length text)
torn_by torn text (Err failed) = torn

-- What the lines of an event have in common: the format of the log, and the date at its time. Nothing is stated of the address and
-- of the microseconds.
abbrev pub IsScene : {O : Type 0} → LogState O → Scene → Type 0
IsScene log scene = (scene.format ≡ log.format) × IsDateAt log.moment scene.date

module _ {O : Type 0} (makes : Making O) where
  -- The text of so many lines is written by one call.
  abbrev pub WritesOnce : ℕ → List ℕ → LogState O → LogState O → Type 0
  WritesOnce count text before after =
      (answer : Result ℕ WriteFailed) × makes before.output (write_call answer text) after.output
      × (after ≡ record before {
        output = after.output;
        lost = lost_by before.lost count text answer;
        torn = torn_by before.torn text answer;
      })

  -- The lines of an event are written by one call. If memory runs out, they are lost without a call.
  abbrev pub WritesScene : Answered → List Entry → Scene → LogState O → LogState O → Type 0
  WritesScene answered journal scene before after =
      WritesOnce (length answered.accesses) (written_text before.torn (event_lines answered journal scene)) before after
      ⊎ (after ≡ losing (length answered.accesses) before)

  -- The same with nothing known of the address and of the microseconds.
  abbrev pub WritesLines : Answered → List Entry → LogState O → LogState O → Type 0
  WritesLines answered journal before after =
      ((scene : Scene) × IsScene before scene × WritesScene answered journal scene before after) ⊎ (after ≡ losing (length answered.accesses) before)

  -- There is no call if no message was answered.
  abbrev pub Writes : Answered → List Entry → LogState O → LogState O → Type 0
  Writes answered journal before after = MatchBool (length answered.accesses == 0) (after ≡ before) (WritesLines answered journal before after)

  -- The lines of an accepted event are written, with the time after it.
  abbrev pub Logs : Answered → Happening → Result Reaction StepFault → LogState O → LogState O → Type 0
  Logs answered happening (Ok reaction) before after = Writes answered reaction.journal.entries (at_moment happening before) after
  Logs answered happening (Err fault) before after = after ≡ at_moment happening before
