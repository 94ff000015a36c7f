-- The output of a script whose start is refused, and of one whose output fails, for our contexts.
use Rattle.std.proofs.Common.{◌≡◌, ◌⊎◌, ℕ, true, List, Result, Ok, Err, refl, inl, inr, subst}
use Rattle.sv_component.specs.Steps.{ComponentSteps}
use Rattle.sv_container.specs.Running.{StepsOf, StopsOf, run_of}
use Rattle.sv_container.specs.Script.{AreFresh, EndsUnstarted, Follows, draws, ended_by, refused_by}
use Rattle.sv_container.specs.Starting.{Starts}
use Rattle.sv_container.specs.declared.container.Container.{Container}
use Rattle.sv_journal.specs.declared.start_code.NewCode.{NewCode}
use Rattle.sv_journal.specs.declared.start_code.NewCode.TheVariants as code
use Rattle.sv_journal.specs.declared.start_code.StartCode.TheVariants as reasons
use Rattle.sv_container.specs.declared.new_fault.NewFault.{NewFault}
use Rattle.sv_run.specs.declared.run_fault.RunFault.{RunFault}
use Rattle.sv_run.specs.declared.run_fault.RunFault.TheVariants.{Start, Output as FailedOutput}
use Rattle.sv_run.specs.declared.run_fault.RunFault.TheVariants as run
use Rattle.sv_context.specs.Theory.{theory}
use Rattle.sv_headline.proofs.Printing.{like}
use Rattle.sv_headline.proofs.Starting.{runs_lawfully}
use Rattle.sv_headline.specs.Callers.{CallersOfAStartedContainerHaveLoggedIn}
use Rattle.sv_headline.specs.Failing.{PrintsARefusedStart, PrintsTheFirstBytes, WhatAFailedOutputHoldsIsLawful, WhatARefusedStartPrintsIsItsText}
use Rattle.sv_headline.specs.Until.{EveryRunIsLawfulUntilRefused}
use Rattle.sv_journal.specs.Journal.{JournalState, new_journal}
use Rattle.sv_lifecycle.specs.declared.deployment.Deployment.{Deployment}
use Rattle.sv_run.specs.Laws.{RequestsEnterExactlyWhereAllowed}
use Rattle.sv_run.specs.declared.counted_words.CountedWords.{CountedWords}
use Rattle.sv_script.specs.Printed.{start_text}
use Rattle.sv_script.specs.Whole.{PrintsOf, RunsWhole}
use Rattle.sv_script.specs.WholeLaws.{AFailedOutputHoldsAPart, AScriptIsALawfulRun, IsPart}
use Rattle.sv_script.specs.declared.replay_fault.ReplayFault.{ReplayFault}
use Rattle.sv_script.specs.declared.replay_fault.ReplayFault.TheVariants.{Script, Output, NoMemory}
use Rattle.sv_streams.specs.Calls.{Making, WritesAll}
use Rattle.sv_streams.specs.declared.stream.WriteFailed.{WriteFailed}

-- ---- a container

-- a write failed in a run only if one failed in its replay
wants_output : (ended : Result (Unit {0}) ReplayFault) → Err FailedOutput ≡ ended_by ended → ended ≡ Err Output
wants_output (Ok done) same = absurd (cc)
wants_output (Err (Script line)) same = absurd (cc)
wants_output (Err Output) same = refl
wants_output (Err NoMemory) same = absurd (cc)

-- a run whose container started is not ended by a refused start
never_refused : (ended : Result (Unit {0}) ReplayFault) (its_code : NewCode) (context : List ℕ) → Err (Start its_code context) ≡ ended_by ended → ⊥
never_refused (Ok done) its_code context same = absurd (cc)
never_refused (Err (Script line)) its_code context same = absurd (cc)
never_refused (Err Output) its_code context same = absurd (cc)
never_refused (Err NoMemory) its_code context same = absurd (cc)

module _ {O : Type 0} (takes : Making O) (context : List ℕ) (started : JournalState) (output output_after : O) (result : Result (Unit {0}) RunFault) where
  -- the text of a refused start was printed, or memory ran out
  abbrev IsPrinted : NewCode → Type 0
  IsPrinted its_code =
      (result ≡ Err run.NoMemory)
      ⊎ ((printed : Result (Unit {0}) ReplayFault) × PrintsOf takes start_text started output printed output_after
      × (result ≡ refused_by its_code context printed))

  is_printed : (its_code : NewCode) → EndsUnstarted takes its_code context started output result output_after → IsPrinted its_code
  is_printed (code.Start reasons.NoMemory) refused = inl refused.0
  is_printed code.DuplicateContext refused = inr refused
  is_printed code.TooManyContexts refused = inr refused
  is_printed (code.Start reasons.PartsMismatch) refused = inr refused
  is_printed (code.Start (reasons.InitFailed place)) refused = inr refused

module _ {S F L I O : Type 0} (moving : ComponentSteps S F L) (gives : Making I)
    (takes : Making O) where
  module _ (deployments : List (Deployment S F L)) (script script_after : I) (output output_after : O) where
    module _ (its_words : CountedWords) (fresh : AreFresh its_words) (its_fault : NewFault S F L) (its_start : JournalState)
        (its_starts : Starts moving deployments its_words new_journal (Err its_fault) its_start) (is_unread : script_after ≡ script) where
      refused_so : (code : NewCode) (context : List ℕ) (written : Result (Unit {0}) WriteFailed) → its_fault.code ≡ code → its_fault.context ≡ context
          → its_start.whole ≡ true → WritesAll takes (start_text its_start.entries) output written output_after
          → PrintsARefusedStart moving gives takes deployments script output code context written script_after output_after
      refused_so code context written same_code same_context is_whole writes_so = record {
        words = its_words;
        are_fresh = fresh;
        fault = its_fault;
        started = its_start;
        starts = its_starts;
        is_code = same_code;
        is_context = same_context;
        unread = is_unread;
        whole = is_whole;
        writes = writes_so;
      }

      whole_text : (code : NewCode) (context : List ℕ) (printed : Result (Unit {0}) ReplayFault)
          → PrintsOf takes start_text its_start output printed output_after → Err (Start code context) ≡ refused_by its_fault.code its_fault.context printed
          → PrintsARefusedStart moving gives takes deployments script output code context (Ok tt) script_after output_after
      whole_text code context (Ok done) prints same = refused_so code context (Ok tt) (cc) (cc) prints.0 prints.1
      whole_text code context (Err (Script line)) prints same = absurd prints
      whole_text code context (Err Output) prints same = absurd (cc)
      whole_text code context (Err NoMemory) prints same = absurd (cc)

      first_bytes : (printed : Result (Unit {0}) ReplayFault) → PrintsOf takes start_text its_start output printed output_after
          → Err FailedOutput ≡ refused_by its_fault.code its_fault.context printed
          → (code : NewCode) × (context : List ℕ) × (failed : WriteFailed)
          × PrintsARefusedStart moving gives takes deployments script output code context (Err failed) script_after output_after
      first_bytes (Ok done) prints same = absurd (cc)
      first_bytes (Err (Script line)) prints same = absurd prints
      first_bytes (Err Output) prints same =
          (its_fault.code, its_fault.context, prints.1.0, refused_so its_fault.code its_fault.context (Err prints.1.0) refl refl prints.0 prints.1.1)
      first_bytes (Err NoMemory) prints same = absurd (cc)

      whole_text_of : (code : NewCode) (context : List ℕ)
          → IsPrinted takes its_fault.context its_start output output_after (Err (Start code context)) its_fault.code
          → PrintsARefusedStart moving gives takes deployments script output code context (Ok tt) script_after output_after
      whole_text_of code context (inl same) = absurd (cc)
      whole_text_of code context (inr (printed, prints, same)) = whole_text code context printed prints same

      first_bytes_of : IsPrinted takes its_fault.context its_start output output_after (Err FailedOutput) its_fault.code
          → (code : NewCode) × (context : List ℕ) × (failed : WriteFailed)
          × PrintsARefusedStart moving gives takes deployments script output code context (Err failed) script_after output_after
      first_bytes_of (inl same) = absurd (cc)
      first_bytes_of (inr (printed, prints, same)) = first_bytes printed prints same

    refused_behind : (code : NewCode) (context : List ℕ) (words : CountedWords) → AreFresh words → (started : JournalState)
        (begun : Result (Container S F L CountedWords) (NewFault S F L)) → Starts moving deployments words new_journal begun started
        → Follows moving gives takes begun started script output (Err (Start code context)) script_after output_after
        → PrintsARefusedStart moving gives takes deployments script output code context (Ok tt) script_after output_after
    refused_behind code context words fresh started (Ok container) starts follows = absurd (never_refused follows.0 code context follows.2)
    refused_behind code context words fresh started (Err fault) starts follows =
        whole_text_of words fresh fault started starts follows.0 code context
        (is_printed takes fault.context started output output_after (Err (Start code context)) fault.code follows.1)

    module _ (every : EveryRunIsLawfulUntilRefused moving draws)
        (callers : CallersOfAStartedContainerHaveLoggedIn moving draws)
        (enters : RequestsEnterExactlyWhereAllowed (theory moving draws))
        (part : AFailedOutputHoldsAPart (StepsOf moving draws) (StopsOf moving) gives takes)
        (lawful : AScriptIsALawfulRun (StepsOf moving draws) (theory moving draws)) where
      first_bytes_behind : (its_words : CountedWords) → AreFresh its_words → (its_start : JournalState) (its_container : Container S F L CountedWords)
          → Starts moving deployments its_words new_journal (Ok its_container) its_start
          → IsPart (StepsOf moving draws) (StopsOf moving) gives takes its_start (record { container = its_container }) script output script_after output_after
          → PrintsTheFirstBytes moving gives takes deployments script output script_after output_after
      first_bytes_behind its_words fresh its_start its_container its_starts is = record {
        words = its_words;
        are_fresh = fresh;
        container = its_container;
        started = its_start;
        starts = its_starts;
        part = is;
        run = runs_lawfully moving every callers deployments its_words new_journal its_start its_container its_starts is.played
            (lawful run_of (like moving gives takes) enters (record { container = its_container }) is.played is.plays);
      }

      failed_behind : (words : CountedWords) → AreFresh words → (started : JournalState)
          (begun : Result (Container S F L CountedWords) (NewFault S F L)) → Starts moving deployments words new_journal begun started
          → Follows moving gives takes begun started script output (Err FailedOutput) script_after output_after
          → ((code : NewCode) × (context : List ℕ) × (failed : WriteFailed)
          × PrintsARefusedStart moving gives takes deployments script output code context (Err failed) script_after output_after)
          ⊎ PrintsTheFirstBytes moving gives takes deployments script output script_after output_after
      failed_behind words fresh started (Ok container) starts follows =
          inr (first_bytes_behind words fresh started container starts
          (part started (record { container = container }) script output script_after output_after
          (subst (λ ended. RunsWhole (StepsOf moving draws) (StopsOf moving) gives takes
          started (record { container = container }) script output ended script_after output_after) (wants_output follows.0 follows.2) follows.1)))
      failed_behind words fresh started (Err fault) starts follows =
          inl (first_bytes_of words fresh fault started starts follows.0
          (is_printed takes fault.context started output output_after (Err FailedOutput) fault.code follows.1))

  pub is_its_text : WhatARefusedStartPrintsIsItsText moving gives takes
  is_its_text deployments script output code context script_after output_after ran =
      refused_behind deployments script script_after output output_after code context ran.words ran.are_fresh ran.started ran.begun ran.starts ran.follows

  pub is_lawful : EveryRunIsLawfulUntilRefused moving draws
      → CallersOfAStartedContainerHaveLoggedIn moving draws
      → RequestsEnterExactlyWhereAllowed (theory moving draws)
      → AFailedOutputHoldsAPart (StepsOf moving draws) (StopsOf moving) gives takes
      → AScriptIsALawfulRun (StepsOf moving draws) (theory moving draws)
      → WhatAFailedOutputHoldsIsLawful moving gives takes
  is_lawful every callers enters part lawful deployments script output script_after output_after ran =
      failed_behind deployments script script_after output output_after every callers enters part lawful ran.words ran.are_fresh ran.started ran.begun ran.starts
      ran.follows
