-- The output of a script in memory: known bytes in, and known bytes out (Jakarta Servlet 6.0, section 13.8).
use Rattle.std.specs.Prelude.{◌≡◌, ℕ, List, ◌++◌, map, Ok}
use Rattle.sv_component.specs.Steps.{ComponentSteps}
use Rattle.sv_container.specs.Starting.{Starts}
use Rattle.sv_container.specs.declared.container.Container.{Container}
use Rattle.sv_lifecycle.specs.declared.deployment.Deployment.{Deployment}
use Rattle.sv_headline.specs.Headline.{RunsLawfully}
use Rattle.sv_journal.specs.Journal.{JournalState, new_journal}
use Rattle.sv_script.specs.Asked.{reactions_text}
use Rattle.sv_script.specs.Lines.{lines_of}
use Rattle.sv_script.specs.Replay.{Played}
use Rattle.sv_script.specs.Line.{asked}
use Rattle.sv_script.specs.Printed.{shutdown_text, start_text}
use Rattle.sv_container.specs.Running.{StopsOf}
use Rattle.sv_container.specs.Script.{AreFresh, RunsScript}
use Rattle.sv_container.specs.declared.running.Running.{Running}
use Rattle.sv_streams.specs.Memory.{IsMade, MemoryState}
use Rattle.sv_run.specs.declared.counted_words.CountedWords.{CountedWords}

module _ {S F L : Type 0} (moving : ComponentSteps S F L) where
  -- the container started with the deployments, the events that the input lines ask for are a lawful run of it, and it
  -- stopped; the output is the text of the start, of each event, and of the stop
  pub record PrintsItsRun (deployments : List (Deployment S F L)) (input printed : List ℕ) : Type 0 where
    pub words : CountedWords
    pub are_fresh : AreFresh words
    pub container : Container S F L CountedWords
    pub started : JournalState
    pub starts : Starts moving deployments words new_journal (Ok container) started
    pub played : Played (Running S F L CountedWords)
    pub asks : map asked (lines_of input) ≡ map Ok played.said
    pub run : RunsLawfully moving container played
    pub stopped : JournalState
    pub stops : StopsOf moving played.handler stopped
    pub text : printed ≡ start_text started.entries ++ reactions_text 1 played.reactions ++ shutdown_text stopped.entries

  -- a script in memory that ended well appends the text of its run to the output
  abbrev pub AScriptInMemoryPrintsItsRun : Type 0
  AScriptInMemoryPrintsItsRun =
      (deployments : List (Deployment S F L)) (script output script_after output_after : MemoryState)
      → RunsScript moving IsMade IsMade deployments script output (Ok tt) script_after output_after
      → (printed : List ℕ) × (output_after.written ≡ output.written ++ printed) × PrintsItsRun deployments script.unread printed
