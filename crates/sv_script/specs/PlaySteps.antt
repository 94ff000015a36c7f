-- The steps of a replay.
use Rattle.std.specs.Prelude.{◌≡◌, ◌⊎◌, ℕ, ◌+◌, ◌≤◌, true, List, [], ◌∷◌, length, map, Result, Ok, Err}
use Rattle.std.specs.Option.{option_to_list}
use Rattle.sv_script.specs.Asked.{event_of, moment_behind, reaction_text, reactions_text}
use Rattle.sv_script.specs.Replay.{AnswersLine, WantsMemory}
use Rattle.sv_script.specs.ReplayFault.{is_of_script}
use Rattle.sv_script.specs.declared.play.Course.{Course}
use Rattle.sv_script.specs.declared.replay_fault.ReplayFault.{ReplayFault}
use Rattle.sv_script.specs.declared.replay_fault.ReplayFault.TheVariants.{Script, Output, NoMemory}
use Rattle.sv_run.specs.Events.{Happening}
use Rattle.sv_run.specs.Reacting.{Reacting, Reacts}
use Rattle.sv_run.specs.declared.happening.Reaction.{Reaction}
use Rattle.sv_run.specs.declared.step_fault.StepFault.{StepFault}
use Rattle.sv_script.specs.Line.{asked}
use Rattle.sv_script.specs.declared.line.LineFault.TheVariants.{Unreadable}
use Rattle.sv_script.specs.declared.line.ScriptLine.{ScriptLine}
use Rattle.sv_streams.specs.Calls.{Making, WritesAll}
use Rattle.sv_streams.specs.declared.stream.WriteFailed.{WriteFailed}

-- the line with that number is read, or it is not
abbrev pub Reads : ℕ → List ℕ → Result ScriptLine ReplayFault → Type 0
Reads number line (Ok said) = asked line ≡ Ok said
Reads number line (Err (Script told)) = (told ≡ number) × (asked line ≡ Err Unreadable)
Reads number line (Err Output) = ⊥
Reads number line (Err NoMemory) = Unit {0}

-- a text is written, or memory for it ran out
abbrev pub Prints : {O : Type 0} → Making O → List ℕ → O → Result (Unit {0}) ReplayFault → O → Type 0
Prints takes text output (Ok done) after = WritesAll takes text output (Ok tt) after
Prints takes text output (Err Output) after = (failed : WriteFailed) × WritesAll takes text output (Err failed) after
Prints takes text output (Err (Script number)) after = ⊥
Prints takes text output (Err NoMemory) after = after ≡ output

module _ {R O : Type 0} (steps : Reacting R) (takes : Making O) (course : Course) (before : R) (output : O) where
  -- an event is accepted, and its text is written
  abbrev pub TakesEvent : Happening → Result (Unit {0}) ReplayFault → R → O → Type 0
  TakesEvent event (Ok done) after output_after =
      (reaction : Reaction) × steps before event (Ok reaction) after × WritesAll takes (reaction_text (course.events + 1) reaction) output (Ok tt) output_after
  TakesEvent event (Err Output) after output_after =
      (reaction : Reaction) × steps before event (Ok reaction) after
      × ((failed : WriteFailed) × WritesAll takes (reaction_text (course.events + 1) reaction) output (Err failed) output_after)
  TakesEvent event (Err (Script number)) after output_after =
      (number ≡ course.lines + 1) × (output_after ≡ output)
      × ((refusal : StepFault) × (is_of_script refusal ≡ true) × steps before event (Err refusal) after)
  TakesEvent event (Err NoMemory) after output_after =
      (output_after ≡ output) × ((answer : Result Reaction StepFault) × WantsMemory answer × steps before event answer after)

  -- the event of a line, if any, is accepted
  pub record Accepts (said : ScriptLine) (reactions : List Reaction) (after : R) : Type 0 where
    pub reacts : Reacts steps before (option_to_list (event_of course.moment said)) (map Ok reactions) after
    pub at_most_one : length reactions ≤ 1

  -- the line is played, and the course advances
  abbrev pub PlaysLine : List ℕ → Result (Unit {0}) ReplayFault → Course → R → O → Type 0
  PlaysLine line (Ok done) course_after after output_after =
      (said : ScriptLine) × (reactions : List Reaction) × (asked line ≡ Ok said) × Accepts said reactions after
      × WritesAll takes (reactions_text (course.events + 1) reactions) output (Ok tt) output_after
      × (course_after
      ≡ record { moment = moment_behind course.moment said; lines = course.lines + 1; events = course.events + length reactions })
  PlaysLine line (Err Output) course_after after output_after =
      (said : ScriptLine) × (reaction : Reaction) × (asked line ≡ Ok said) × Accepts said (reaction ∷ []) after
      × ((failed : WriteFailed) × WritesAll takes (reaction_text (course.events + 1) reaction) output (Err failed) output_after)
  PlaysLine line (Err (Script number)) course_after after output_after =
      (number ≡ course.lines + 1) × (output_after ≡ output)
      × (((asked line ≡ Err Unreadable) × (after ≡ before))
      ⊎ ((refusal : StepFault) × (is_of_script refusal ≡ true) × AnswersLine steps course.moment before line (Err refusal) after))
  PlaysLine line (Err NoMemory) course_after after output_after =
      (output_after ≡ output)
      × ((after ≡ before) ⊎ ((answer : Result Reaction StepFault) × WantsMemory answer × AnswersLine steps course.moment before line answer after))
