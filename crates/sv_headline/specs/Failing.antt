-- The output of a script whose start is refused, and of one whose output fails (Jakarta Servlet 6.0, section 13.8).
use Rattle.std.specs.Prelude.{◌≡◌, ◌⊎◌, ℕ, true, List, Result, Ok, Err}
use Rattle.sv_component.specs.Steps.{ComponentSteps}
use Rattle.sv_container.specs.Running.{StepsOf, StopsOf}
use Rattle.sv_container.specs.Script.{AreFresh, RunsScript, draws}
use Rattle.sv_container.specs.Starting.{Starts}
use Rattle.sv_container.specs.declared.container.Container.{Container}
use Rattle.sv_journal.specs.declared.start_code.NewCode.{NewCode}
use Rattle.sv_container.specs.declared.new_fault.NewFault.{NewFault}
use Rattle.sv_run.specs.declared.run_fault.RunFault.TheVariants.{Start, Output}
use Rattle.sv_headline.specs.Headline.{RunsLawfully}
use Rattle.sv_journal.specs.Journal.{JournalState, new_journal}
use Rattle.sv_lifecycle.specs.declared.deployment.Deployment.{Deployment}
use Rattle.sv_run.specs.declared.counted_words.CountedWords.{CountedWords}
use Rattle.sv_script.specs.Printed.{start_text}
use Rattle.sv_script.specs.WholeLaws.{IsPart}
use Rattle.sv_streams.specs.Calls.{Making, WritesAll}
use Rattle.sv_streams.specs.declared.stream.WriteFailed.{WriteFailed}

module _ {S F L I O : Type 0} (moving : ComponentSteps S F L) (gives : Making I)
    (takes : Making O) where
  -- the container refused to start, and nothing of the script was read; the output is the text of the entries of the
  -- start, or the first bytes of this text if a write failed
  pub record PrintsARefusedStart (deployments : List (Deployment S F L)) (script : I) (output : O) (code : NewCode) (context : List ℕ)
      (written : Result (Unit {0}) WriteFailed) (script_after : I) (output_after : O) : Type 0 where
    pub words : CountedWords
    pub are_fresh : AreFresh words
    pub fault : NewFault S F L
    pub started : JournalState
    pub starts : Starts moving deployments words new_journal (Err fault) started
    pub is_code : fault.code ≡ code
    pub is_context : fault.context ≡ context
    pub unread : script_after ≡ script
    pub whole : started.whole ≡ true
    pub writes : WritesAll takes (start_text started.entries) output written output_after

  abbrev pub WhatARefusedStartPrintsIsItsText : Type 0
  WhatARefusedStartPrintsIsItsText =
      (deployments : List (Deployment S F L)) (script : I) (output : O) (code : NewCode) (context : List ℕ) (script_after : I) (output_after : O)
      → RunsScript moving gives takes deployments script output (Err (Start code context)) script_after output_after
      → PrintsARefusedStart deployments script output code context (Ok tt) script_after output_after

  -- the container started, and a write failed later; the output is the first bytes of the text of a lawful run
  pub record PrintsTheFirstBytes (deployments : List (Deployment S F L)) (script : I) (output : O) (script_after : I) (output_after : O) : Type 0 where
    pub words : CountedWords
    pub are_fresh : AreFresh words
    pub container : Container S F L CountedWords
    pub started : JournalState
    pub starts : Starts moving deployments words new_journal (Ok container) started
    pub part : IsPart (StepsOf moving draws) (StopsOf moving) gives takes
        started (record { container = container }) script output script_after output_after
    pub run : RunsLawfully moving container part.played

  abbrev pub WhatAFailedOutputHoldsIsLawful : Type 0
  WhatAFailedOutputHoldsIsLawful =
      (deployments : List (Deployment S F L)) (script : I) (output : O) (script_after : I) (output_after : O)
      → RunsScript moving gives takes deployments script output (Err Output) script_after output_after
      → ((code : NewCode) × (context : List ℕ) × (failed : WriteFailed)
      × PrintsARefusedStart deployments script output code context (Err failed) script_after output_after)
      ⊎ PrintsTheFirstBytes deployments script output script_after output_after
