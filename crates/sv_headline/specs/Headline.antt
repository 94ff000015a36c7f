-- The output of a script, from input bytes to output bytes (Jakarta Servlet 6.0, section 13.8).
use Rattle.std.specs.Prelude.{◌≡◌, List, Result, Ok, Err}
use Rattle.sv_component.specs.Steps.{ComponentSteps}
use Rattle.sv_headline.specs.Record.{IsLawfulRun}
use Rattle.sv_container.specs.Container.{state_of}
use Rattle.sv_container.specs.Starting.{Starts}
use Rattle.sv_container.specs.declared.container.Container.{Container}
use Rattle.sv_context.specs.Theory.{theory}
use Rattle.sv_lifecycle.specs.declared.deployment.Deployment.{Deployment}
use Rattle.sv_headline.specs.Callers.{CallersHaveLoggedIn}
use Rattle.sv_journal.specs.Journal.{JournalState, new_journal}
use Rattle.sv_script.specs.Asked.{events_of}
use Rattle.sv_script.specs.Replay.{Played}
use Rattle.sv_script.specs.declared.replay_fault.ReplayFault.{ReplayFault}
use Rattle.sv_script.specs.WholeLaws.{PlaysALawfulRun, IsOneText}
use Rattle.sv_container.specs.Running.{StepsOf, StopsOf, run_of}
use Rattle.sv_container.specs.Script.{AreFresh, RunsScript, draws, ended_by}
use Rattle.sv_run.specs.declared.run_fault.RunFault.{RunFault}
use Rattle.sv_run.specs.declared.run_fault.RunFault.TheVariants.{Script, Start, Output, NoMemory, Connection}
use Rattle.sv_container.specs.declared.running.Running.{Running}
use Rattle.sv_streams.specs.Calls.{Making}
use Rattle.sv_run.specs.declared.counted_words.CountedWords.{CountedWords}

-- all was written: the run ended well or at a faulty line of the script
abbrev pub IsWritten : Result (Unit {0}) RunFault → Type 0
IsWritten (Ok done) = Unit {0}
IsWritten (Err (Script line)) = Unit {0}
IsWritten (Err (Start code context)) = ⊥
IsWritten (Err Output) = ⊥
IsWritten (Err NoMemory) = ⊥
IsWritten (Err Connection) = ⊥

module _ {S F L : Type 0} (moving : ComponentSteps S F L) where
  -- the events that a script asks for are a run of the container, and their texts report it; the run is lawful; and
  -- every caller at its end has logged in
  pub record RunsLawfully (container : Container S F L CountedWords) (played : Played (Running S F L CountedWords)) : Type 0 where
    pub plays : PlaysALawfulRun (StepsOf moving draws) (theory moving draws)
        run_of (record { container = container }) played
    pub lawful : IsLawfulRun moving draws (state_of container) (events_of 0 played.said) plays.answers (run_of played.handler)
    pub callers : CallersHaveLoggedIn moving draws plays.answers (run_of played.handler)

module _ {S F L I O : Type 0} (moving : ComponentSteps S F L) (gives : Making I)
    (takes : Making O) where
  -- the container started with the deployments; the output is the text of its start, of the events that the script
  -- asks for, and of its stop; and these events are a lawful run
  pub record PrintsALawfulRun (deployments : List (Deployment S F L)) (script : I) (output : O) (result : Result (Unit {0}) RunFault) (script_after : I)
      (output_after : O) : Type 0 where
    pub words : CountedWords
    pub are_fresh : AreFresh words
    pub container : Container S F L CountedWords
    pub started : JournalState
    pub starts : Starts moving deployments words new_journal (Ok container) started
    pub ended : Result (Unit {0}) ReplayFault
    pub result_is : result ≡ ended_by ended
    pub text : IsOneText (StepsOf moving draws) (StopsOf moving) gives takes
        started (record { container = container }) script output ended script_after output_after
    pub run : RunsLawfully moving container text.played

  abbrev pub WhatAScriptPrintsIsLawful : Type 0
  WhatAScriptPrintsIsLawful =
      (deployments : List (Deployment S F L)) (script : I) (output : O) (result : Result (Unit {0}) RunFault) (script_after : I) (output_after : O)
      → RunsScript moving gives takes deployments script output result script_after output_after
      → IsWritten result → PrintsALawfulRun deployments script output result script_after output_after
