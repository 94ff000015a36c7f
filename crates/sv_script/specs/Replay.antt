-- The replay of a script: its lines in order, the events that they ask for, and the texts of these events.
use Rattle.std.specs.Prelude.{◌≡◌, ◌⊎◌, ℕ, ◌+◌, ◌≤◌, false, true, List, [], ◌∷◌, ◌++◌, length, map, Some, Result, Ok, Err}
use Rattle.sv_script.specs.Asked.{event_of, events_of, moment_behind_all, reaction_text, reactions_text}
use Rattle.sv_script.specs.Lines.{AreNext, IsNext, lines_of}
use Rattle.sv_script.specs.ReplayFault.{is_of_script}
use Rattle.sv_script.specs.declared.replay_fault.ReplayFault.{ReplayFault}
use Rattle.sv_script.specs.declared.replay_fault.ReplayFault.TheVariants.{Script, Output, NoMemory}
use Rattle.sv_run.specs.Events.{Happening}
use Rattle.sv_run.specs.Reacting.{Reacting, Reacts}
use Rattle.sv_run.specs.declared.happening.Reaction.{Reaction}
use Rattle.sv_run.specs.declared.step_fault.StepFault.{StepFault}
use Rattle.sv_script.specs.Line.{asked}
use Rattle.sv_script.specs.declared.line.LineFault.TheVariants.{Unreadable}
use Rattle.sv_script.specs.declared.line.ScriptLine.{ScriptLine}
use Rattle.sv_streams.specs.Calls.{AreMade, Call, Making, WritesAll, failures, given, meets_end, reads, taken}
use Rattle.sv_streams.specs.Lines.{has_line_feed, max_reads}
use Rattle.sv_streams.specs.declared.stream.WriteFailed.{WriteFailed}

-- the texts of all events but the last were written, and a write of the last failed
pub record FailsAtLast {O : Type 0} (takes : Making O) (reactions : List Reaction) (output after : O) : Type 0 where
  pub earlier : List Reaction
  pub last : Reaction
  pub are : reactions ≡ earlier ++ last ∷ []
  pub between : O
  pub writes : WritesAll takes (reactions_text 1 earlier) output (Ok tt) between
  pub failed : WriteFailed
  pub fails : WritesAll takes (reaction_text (length earlier + 1) last) between (Err failed) after

-- the texts of the events were written, up to a failed write
abbrev pub Writes : {O : Type 0} → Making O → List Reaction → O → Result (Unit {0}) ReplayFault → O → Type 0
Writes takes reactions output (Ok done) after = WritesAll takes (reactions_text 1 reactions) output (Ok tt) after
Writes takes reactions output (Err Output) after = FailsAtLast takes reactions output after
Writes takes reactions output (Err (Script number)) after = WritesAll takes (reactions_text 1 reactions) output (Ok tt) after
Writes takes reactions output (Err NoMemory) after = WritesAll takes (reactions_text 1 reactions) output (Ok tt) after

-- the progress of a replay: the calls that read the script, the lines played and the text read after them, the requests
-- of the lines, the reactions to their events, and the handler
pub record Played (R : Type 0) : Type 0 where
  pub calls : List Call
  pub lines : List (List ℕ)
  pub rest : List ℕ
  pub said : List ScriptLine
  pub reactions : List Reaction
  pub handler : R

-- memory ran out after a step: for the text of its reaction, or because the step was refused for that reason
abbrev pub WantsMemory : Result Reaction StepFault → Type 0
WantsMemory (Ok reaction) = Unit {0}
WantsMemory (Err refusal) = is_of_script refusal ≡ false

module _ {R : Type 0} (played : Played R) where
  abbrev pub IsNextLine : List ℕ → List ℕ → Type 0
  IsNextLine line behind = IsNext (meets_end played.calls) line played.rest behind

  abbrev pub NoneFailed : Type 0
  NoneFailed = failures played.calls ≡ 0

  -- the next line has none of the forms
  abbrev pub IsFormless : Type 0
  IsFormless = NoneFailed × ((line : List ℕ) × (behind : List ℕ) × IsNextLine line behind × (asked line ≡ Err Unreadable))

  -- the next line is incomplete, because a read failed or the maximum number of reads was made
  abbrev pub IsCutOff : Type 0
  IsCutOff = (has_line_feed played.rest ≡ false) × ((failures played.calls ≡ 1) ⊎ (NoneFailed × (max_reads ≤ reads played.calls)))

module _ {R : Type 0} (steps : Reacting R) where
  -- a line asks for an event, which has this answer
  pub record AnswersLine (moment : ℕ) (before : R) (line : List ℕ) (answer : Result Reaction StepFault) (after : R) : Type 0 where
    pub said : ScriptLine
    pub is_read : asked line ≡ Ok said
    pub event : Happening
    pub is_event : event_of moment said ≡ Some event
    pub answers : steps before event answer after

  -- the next line asks for an event, which has this answer
  abbrev pub AnswersNext : Played R → Result Reaction StepFault → R → Type 0
  AnswersNext played answer after =
      NoneFailed played
      × ((line : List ℕ) × (behind : List ℕ) × IsNextLine played line behind
      × AnswersLine (moment_behind_all 0 played.said) played.handler line answer after)

  -- the lines were read one after another, and each event that they ask for was accepted
  pub record Plays (before : R) (played : Played R) : Type 0 where
    pub no_writes : taken played.calls ≡ []
    pub counted : reads played.calls ≤ max_reads
    pub are_next : AreNext (meets_end played.calls) played.lines (given played.calls) played.rest
    pub are_read : map asked played.lines ≡ map Ok played.said
    pub reacts : Reacts steps before (events_of 0 played.said) (map Ok played.reactions) played.handler

  -- how the replay ended: at the end of the script, at a line by its number from 1, at a write, or out of memory
  abbrev pub Ends : Played R → Result (Unit {0}) ReplayFault → R → Type 0
  Ends played (Ok done) after =
      NoneFailed played × (meets_end played.calls ≡ true) × (played.lines ≡ lines_of (given played.calls)) × (after ≡ played.handler)
  Ends played (Err (Script number)) after =
      (number ≡ length played.lines + 1)
      × (((IsFormless played ⊎ IsCutOff played) × (after ≡ played.handler))
      ⊎ ((refusal : StepFault) × (is_of_script refusal ≡ true) × AnswersNext played (Err refusal) after))
  Ends played (Err Output) after = NoneFailed played × (after ≡ played.handler)
  Ends played (Err NoMemory) after =
      (NoneFailed played × (after ≡ played.handler)) ⊎ ((answer : Result Reaction StepFault) × WantsMemory answer × AnswersNext played answer after)

  -- a script was replayed up to some line, and the output is the text of the reactions to its events
  pub record Replays {I O : Type 0} (gives : Making I) (takes : Making O) (before : R) (script : I) (output : O) (result : Result (Unit {0}) ReplayFault)
      (after : R) (script_after : I) (output_after : O) : Type 0 where
    pub played : Played R
    pub plays : Plays before played
    pub are_made : AreMade gives script played.calls script_after
    pub writes : Writes takes played.reactions output result output_after
    pub ends : Ends played result after
