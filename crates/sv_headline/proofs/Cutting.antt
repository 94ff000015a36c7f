-- The output of a script whose run ends out of memory, for our contexts.
use Rattle.std.proofs.Common.{◌≡◌, ◌⊎◌, ℕ, List, Result, Ok, Err, refl, inl, inr, subst}
use Rattle.sv_component.specs.Steps.{ComponentSteps}
use Rattle.sv_headline.specs.Until.{EveryRunIsLawfulUntilRefused}
use Rattle.sv_container.specs.Starting.{Starts}
use Rattle.sv_container.specs.declared.container.Container.{Container}
use Rattle.sv_journal.specs.declared.start_code.NewCode.{NewCode}
use Rattle.sv_journal.specs.declared.start_code.NewCode.TheVariants as code
use Rattle.sv_journal.specs.declared.start_code.StartCode.TheVariants as reasons
use Rattle.sv_container.specs.declared.new_fault.NewFault.{NewFault}
use Rattle.sv_context.specs.Theory.{theory}
use Rattle.sv_lifecycle.specs.declared.deployment.Deployment.{Deployment}
use Rattle.sv_headline.proofs.Starting.{runs_lawfully}
use Rattle.sv_headline.specs.Callers.{CallersOfAStartedContainerHaveLoggedIn}
use Rattle.sv_headline.specs.Cut.{PrintsACutRun, WhatARefusedScriptPrintsBeginsTheWhole, WhatARefusedScriptPrintsIsCut}
use Rattle.sv_journal.specs.Journal.{JournalState, new_journal}
use Rattle.sv_script.specs.declared.replay_fault.ReplayFault.{ReplayFault}
use Rattle.sv_script.specs.declared.replay_fault.ReplayFault.TheVariants as replays
use Rattle.sv_run.specs.Laws.{RequestsEnterExactlyWhereAllowed}
use Rattle.sv_script.specs.Printed.{start_text}
use Rattle.sv_script.specs.WholeLaws as runs
use Rattle.sv_script.specs.Whole.{PrintsOf, RunsWhole}
use Rattle.sv_container.specs.Running.{StepsOf, StopsOf, run_of}
use Rattle.sv_container.specs.Script.{AreFresh, Follows, EndsUnstarted, draws, ended_by, refused_by}
use Rattle.sv_run.specs.declared.run_fault.RunFault.TheVariants.{NoMemory}
use Rattle.sv_streams.specs.Calls.{Making}
use Rattle.sv_run.specs.declared.counted_words.CountedWords.{CountedWords}
use Rattle.sv_headline.proofs.Printing.{like}

-- a run ends out of memory only if its replay does
wants_memory : (ended : Result (Unit {0}) ReplayFault) → Err NoMemory ≡ ended_by ended → ended ≡ Err replays.NoMemory
wants_memory (Ok done) same = absurd (cc)
wants_memory (Err (replays.Script line)) same = absurd (cc)
wants_memory (Err replays.Output) same = absurd (cc)
wants_memory (Err replays.NoMemory) same = refl

module _ {O : Type 0} (takes : Making O) (context : List ℕ) (started : JournalState) (output output_after : O) where
  -- if the start was refused for another cause, memory ran out when its text was printed, and the output is unchanged
  unprinted : (its_code : NewCode) (printed : Result (Unit {0}) ReplayFault) → PrintsOf takes start_text started output printed output_after
      → Err NoMemory ≡ refused_by its_code context printed → output_after ≡ output
  unprinted its_code (Ok done) prints same = absurd (cc)
  unprinted its_code (Err (replays.Script line)) prints same = absurd prints
  unprinted its_code (Err replays.Output) prints same = absurd (cc)
  unprinted its_code (Err replays.NoMemory) prints same = prints

  unwritten : (its_code : NewCode) → EndsUnstarted takes its_code context started output (Err NoMemory) output_after → output_after ≡ output
  unwritten (code.Start reasons.NoMemory) refused = refused.1
  unwritten code.DuplicateContext refused = unprinted code.DuplicateContext refused.0 refused.1 refused.2
  unwritten code.TooManyContexts refused = unprinted code.TooManyContexts refused.0 refused.1 refused.2
  unwritten (code.Start reasons.PartsMismatch) refused = unprinted (code.Start reasons.PartsMismatch) refused.0 refused.1 refused.2
  unwritten (code.Start (reasons.InitFailed place)) refused = unprinted (code.Start (reasons.InitFailed place)) refused.0 refused.1 refused.2

module _ {S F L I O : Type 0} (moving : ComponentSteps S F L) (gives : Making I)
    (takes : Making O) where
  module _ (every : EveryRunIsLawfulUntilRefused moving draws)
      (callers : CallersOfAStartedContainerHaveLoggedIn moving draws)
      (enters : RequestsEnterExactlyWhereAllowed (theory moving draws))
      (is_cut : runs.ARefusedRunIsCut (StepsOf moving draws) (StopsOf moving) gives takes)
      (lawful : runs.AScriptIsALawfulRun (StepsOf moving draws) (theory moving draws))
      (deployments : List (Deployment S F L)) (script script_after : I) (output output_after : O) where
    cut_behind : (its_words : CountedWords) → AreFresh its_words → (its_start : JournalState) (its_container : Container S F L CountedWords)
        → Starts moving deployments its_words new_journal (Ok its_container) its_start
        → runs.IsUnwritten (StepsOf moving draws) (StopsOf moving) gives takes
        (record { container = its_container }) script output script_after output_after
        ⊎ runs.IsCut (StepsOf moving draws) (StopsOf moving) gives takes
        its_start (record { container = its_container }) script output script_after output_after
        → (output_after ≡ output) ⊎ PrintsACutRun moving gives takes deployments script output script_after output_after
    cut_behind its_words fresh its_start its_container its_starts (inl nothing) = inl nothing.unwritten
    cut_behind its_words fresh its_start its_container its_starts (inr is) =
        inr record {
          words = its_words;
          are_fresh = fresh;
          container = its_container;
          started = its_start;
          starts = its_starts;
          cut = is;
          run = runs_lawfully moving every callers deployments its_words new_journal its_start its_container its_starts
              is.played (lawful run_of (like moving gives takes) enters (record { container = its_container }) is.played is.plays);
        }

    followed : (its_words : CountedWords) → AreFresh its_words → (its_start : JournalState) (begun : Result (Container S F L CountedWords) (NewFault S F L))
        → Starts moving deployments its_words new_journal begun its_start
        → Follows moving gives takes begun its_start script output (Err NoMemory) script_after output_after
        → (output_after ≡ output) ⊎ PrintsACutRun moving gives takes deployments script output script_after output_after
    followed its_words fresh its_start (Ok its_container) its_starts follows =
        cut_behind its_words fresh its_start its_container its_starts
        (is_cut its_start (record { container = its_container }) script output script_after output_after
        (subst (λ ended. RunsWhole (StepsOf moving draws) (StopsOf moving) gives takes
        its_start (record { container = its_container }) script output ended script_after output_after) (wants_memory follows.0 follows.2) follows.1))
    followed its_words fresh its_start (Err fault) its_starts follows =
        inl (unwritten takes fault.context its_start output output_after fault.code follows.1)

  pub is_cut_so : EveryRunIsLawfulUntilRefused moving draws
      → CallersOfAStartedContainerHaveLoggedIn moving draws
      → RequestsEnterExactlyWhereAllowed (theory moving draws)
      → runs.ARefusedRunIsCut (StepsOf moving draws) (StopsOf moving) gives takes
      → runs.AScriptIsALawfulRun (StepsOf moving draws) (theory moving draws)
      → WhatARefusedScriptPrintsIsCut moving gives takes
  is_cut_so every callers enters is_cut lawful deployments script output script_after output_after ran =
      followed every callers enters is_cut lawful deployments script script_after output output_after ran.words ran.are_fresh ran.started ran.begun ran.starts ran.follows

  pub begins_so : runs.ACutTextBeginsTheWhole (StepsOf moving draws) (StopsOf moving) gives takes
      → WhatARefusedScriptPrintsBeginsTheWhole moving gives takes
  begins_so begins deployments others script other_script output other_output result script_after other_script_after output_after other_output_after refused
      written same first =
      begins refused.started (record { container = refused.container }) script output script_after output_after refused.cut written.started
      (record { container = written.container }) other_script other_output written.ended other_script_after other_output_after written.text same first
