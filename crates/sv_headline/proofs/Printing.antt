-- The output of a script, for our contexts.
use Rattle.std.proofs.Common.{ℕ, List, Result, Ok, Err, refl, ap, subst}
use Rattle.sv_component.specs.Steps.{ComponentSteps}
use Rattle.sv_headline.specs.Until.{EveryRunIsLawfulUntilRefused}
use Rattle.sv_container.specs.Starting.{Starts}
use Rattle.sv_container.specs.declared.container.Container.{Container}
use Rattle.sv_journal.specs.declared.start_code.NewCode.{NewCode}
use Rattle.sv_journal.specs.declared.start_code.NewCode.TheVariants as code
use Rattle.sv_journal.specs.declared.start_code.StartCode.TheVariants as reasons
use Rattle.sv_container.specs.declared.new_fault.NewFault.{NewFault}
use Rattle.sv_context.specs.Theory.{theory}
use Rattle.sv_lifecycle.specs.declared.deployment.Deployment.{Deployment}
use Rattle.sv_headline.proofs.Starting.{runs_lawfully}
use Rattle.sv_headline.specs.Callers.{CallersOfAStartedContainerHaveLoggedIn}
use Rattle.sv_headline.specs.Headline.{IsWritten, PrintsALawfulRun, WhatAScriptPrintsIsLawful}
use Rattle.sv_journal.specs.Journal.{JournalState, new_journal}
use Rattle.sv_script.specs.declared.replay_fault.ReplayFault.{ReplayFault}
use Rattle.sv_script.specs.declared.replay_fault.ReplayFault.TheVariants as replays
use Rattle.sv_run.specs.Laws.{RequestsEnterExactlyWhereAllowed}
use Rattle.sv_run.specs.Reacting.{StepsLike}
use Rattle.sv_script.specs.Printed.{start_text}
use Rattle.sv_script.specs.WholeLaws as runs
use Rattle.sv_script.specs.Whole.{PrintsOf}
use Rattle.sv_container.specs.Running.{StepsOf, StopsOf, run_of}
use Rattle.sv_container.specs.Script.{AreFresh, Follows, PrintsRefused, EndsUnstarted, draws, ended_by, refused_by}
use Rattle.sv_run.specs.declared.run_fault.RunFault.{RunFault}
use Rattle.sv_streams.specs.Calls.{Making}
use Rattle.sv_run.specs.declared.counted_words.CountedWords.{CountedWords}

-- if the run was written in full, so was its replay
replay_written : (ended : Result (Unit {0}) ReplayFault) → IsWritten (ended_by ended) → runs.IsWritten ended
replay_written (Ok done) written = tt
replay_written (Err (replays.Script line)) written = tt
replay_written (Err replays.Output) written = written
replay_written (Err replays.NoMemory) written = written

module _ {O : Type 0} (takes : Making O) (context : List ℕ) (started : JournalState) (output output_after : O) where
  -- a run whose start was refused was not written in full
  printed_unwritten : (its_code : NewCode) (printed : Result (Unit {0}) ReplayFault) → PrintsOf takes start_text started output printed output_after
      → IsWritten (refused_by its_code context printed) → ⊥
  printed_unwritten its_code (Ok done) prints written = written
  printed_unwritten its_code (Err (replays.Script line)) prints written = prints
  printed_unwritten its_code (Err replays.Output) prints written = written
  printed_unwritten its_code (Err replays.NoMemory) prints written = written

  refused_unwritten : (its_code : NewCode) (result : Result (Unit {0}) RunFault) → PrintsRefused takes its_code context started output result output_after
      → IsWritten result → ⊥
  refused_unwritten its_code result refused written = printed_unwritten its_code refused.0 refused.1 (subst IsWritten refused.2 written)

  unwritten : (its_code : NewCode) (result : Result (Unit {0}) RunFault) → EndsUnstarted takes its_code context started output result output_after
      → IsWritten result → ⊥
  unwritten (code.Start reasons.NoMemory) result refused written = subst IsWritten refused.0 written
  unwritten code.DuplicateContext result refused written = refused_unwritten code.DuplicateContext result refused written
  unwritten code.TooManyContexts result refused written = refused_unwritten code.TooManyContexts result refused written
  unwritten (code.Start reasons.PartsMismatch) result refused written = refused_unwritten (code.Start reasons.PartsMismatch) result refused written
  unwritten (code.Start (reasons.InitFailed place)) result refused written = refused_unwritten (code.Start (reasons.InitFailed place)) result refused written

module _ {S F L I O : Type 0} (moving : ComponentSteps S F L) (gives : Making I)
    (takes : Making O) where
  -- the container takes its events as the run of its contexts does
  pub like : StepsLike (StepsOf moving draws) (theory moving draws) run_of
  like before after happening (Ok reaction) steps = (Ok steps.0, steps.1, ap Ok steps.2)
  like before after happening (Err fault) steps = (Err fault, steps, refl)

  module _ (every : EveryRunIsLawfulUntilRefused moving draws)
      (callers : CallersOfAStartedContainerHaveLoggedIn moving draws)
      (enters : RequestsEnterExactlyWhereAllowed (theory moving draws))
      (one_text : runs.ARunWritesOneText (StepsOf moving draws) (StopsOf moving) gives takes)
      (lawful : runs.AScriptIsALawfulRun (StepsOf moving draws) (theory moving draws))
      (deployments : List (Deployment S F L)) (script script_after : I) (output output_after : O) (result : Result (Unit {0}) RunFault) where
    followed : (words : CountedWords) → AreFresh words → (started : JournalState) (begun : Result (Container S F L CountedWords) (NewFault S F L))
        → Starts moving deployments words new_journal begun started
        → Follows moving gives takes begun started script output result script_after output_after
        → IsWritten result → PrintsALawfulRun moving gives takes deployments script output result script_after output_after
    followed its_words fresh its_start (Ok its_container) starts follows written =
        let one = one_text its_start (record { container = its_container }) script output follows.0 script_after output_after follows.1
        (replay_written follows.0 (subst IsWritten follows.2 written)) in
        record {
          words = its_words;
          are_fresh = fresh;
          container = its_container;
          started = its_start;
          starts = starts;
          ended = follows.0;
          result_is = follows.2;
          text = one;
          run = runs_lawfully moving every callers deployments its_words new_journal its_start its_container starts
              one.played (lawful run_of like enters (record { container = its_container }) one.played one.plays);
        }
    followed its_words fresh its_start (Err fault) starts follows written =
        absurd (unwritten takes fault.context its_start output output_after fault.code result follows.1 written)

  pub prints : EveryRunIsLawfulUntilRefused moving draws
      → CallersOfAStartedContainerHaveLoggedIn moving draws
      → RequestsEnterExactlyWhereAllowed (theory moving draws)
      → runs.ARunWritesOneText (StepsOf moving draws) (StopsOf moving) gives takes
      → runs.AScriptIsALawfulRun (StepsOf moving draws) (theory moving draws)
      → WhatAScriptPrintsIsLawful moving gives takes
  prints every callers enters one_text lawful deployments script output result script_after output_after ran written =
      followed every callers enters one_text lawful
      deployments script script_after output output_after result ran.words ran.are_fresh ran.started ran.begun ran.starts ran.follows written
