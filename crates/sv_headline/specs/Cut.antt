-- The output of a script whose run ends out of memory (Jakarta Servlet 6.0, section 13.8).
use Rattle.std.specs.Prelude.{◌≡◌, ◌⊎◌, List, ◌++◌, Result, Ok, Err}
use Rattle.sv_component.specs.Steps.{ComponentSteps}
use Rattle.sv_container.specs.Starting.{Starts}
use Rattle.sv_container.specs.declared.container.Container.{Container}
use Rattle.sv_lifecycle.specs.declared.deployment.Deployment.{Deployment}
use Rattle.sv_headline.specs.Headline.{PrintsALawfulRun, RunsLawfully}
use Rattle.sv_journal.specs.Journal.{JournalState, new_journal}
use Rattle.sv_script.specs.Asked.{reactions_text}
use Rattle.sv_script.specs.Printed.{shutdown_text, start_text}
use Rattle.sv_script.specs.WholeLaws.{Begins, IsCut}
use Rattle.sv_container.specs.Running.{StepsOf, StopsOf}
use Rattle.sv_container.specs.Script.{AreFresh, RunsScript, draws}
use Rattle.sv_run.specs.declared.run_fault.RunFault.{RunFault}
use Rattle.sv_run.specs.declared.run_fault.RunFault.TheVariants.{NoMemory}
use Rattle.sv_streams.specs.Calls.{Making}
use Rattle.sv_run.specs.declared.counted_words.CountedWords.{CountedWords}

module _ {S F L I O : Type 0} (moving : ComponentSteps S F L) (gives : Making I)
    (takes : Making O) where
  -- the container started, and memory ran out later; the output is the text of its start and of the events before,
  -- which are a lawful run; the container was shut down, and nothing more was written
  pub record PrintsACutRun (deployments : List (Deployment S F L)) (script : I) (output : O) (script_after : I) (output_after : O) : Type 0 where
    pub words : CountedWords
    pub are_fresh : AreFresh words
    pub container : Container S F L CountedWords
    pub started : JournalState
    pub starts : Starts moving deployments words new_journal (Ok container) started
    pub cut : IsCut (StepsOf moving draws) (StopsOf moving) gives takes
        started (record { container = container }) script output script_after output_after
    pub run : RunsLawfully moving container cut.played

  -- a run of a script that ends out of memory has written nothing, or such an output
  abbrev pub WhatARefusedScriptPrintsIsCut : Type 0
  WhatARefusedScriptPrintsIsCut =
      (deployments : List (Deployment S F L)) (script : I) (output : O) (script_after : I) (output_after : O)
      → RunsScript moving gives takes deployments script output (Err NoMemory) script_after output_after
      → (output_after ≡ output) ⊎ PrintsACutRun deployments script output script_after output_after

  -- that output begins the output of a complete run, if the starts note the same entries and the first events have the
  -- same reactions
  abbrev pub WhatARefusedScriptPrintsBeginsTheWhole : Type 0
  WhatARefusedScriptPrintsBeginsTheWhole =
      (deployments others : List (Deployment S F L)) (script other_script : I) (output other_output : O) (result : Result (Unit {0}) RunFault)
      (script_after other_script_after : I) (output_after other_output_after : O)
      (refused : PrintsACutRun deployments script output script_after output_after)
      (written : PrintsALawfulRun moving gives takes others other_script other_output result other_script_after other_output_after)
      → refused.started.entries ≡ written.started.entries → Begins refused.cut.played.reactions written.text.played.reactions
      → Begins (start_text refused.started.entries ++ reactions_text 1 refused.cut.played.reactions)
      (start_text written.started.entries ++ reactions_text 1 written.text.played.reactions ++ shutdown_text written.text.stopped.entries)
