-- The start of a container with the random words of a seed.
use Rattle.std.specs.Prelude.{◌≡◌, ℕ, List, Result, Ok, Err, Vec}
use Rattle.std.specs.declared.alloc.Global.{Global}
use Rattle.rand_chacha.specs.ChaCha.{of_seed}
use Rattle.sv_component.specs.Steps.{ComponentSteps}
use Rattle.sv_container.specs.Resuming.{ResumesOr}
use Rattle.sv_container.specs.Starting.{Starts}
use Rattle.sv_container.specs.declared.container.Container.{Container}
use Rattle.sv_container.specs.declared.new_fault.NewFault.{NewFault}
use Rattle.sv_container.specs.declared.suspension.Suspension.{Suspension}
use Rattle.sv_lifecycle.specs.declared.suspended_context.SuspendedContext.{SuspendedContext}
use Rattle.sv_lifecycle.specs.declared.deployment.Deployment.{Deployment}
use Rattle.sv_journal.specs.Journal.{JournalState, new_journal}
use Rattle.sv_journal.specs.declared.start_code.NewCode.{NewCode}
use Rattle.sv_journal.specs.declared.start_code.NewCode.TheVariants.{Start}
use Rattle.sv_journal.specs.declared.start_code.StartCode.TheVariants.{NoMemory}
use Rattle.sv_program.specs.declared.command_fault.CommandFault.{CommandFault}
use Rattle.sv_program.specs.declared.command_fault.CommandFault.TheVariants as fault
use Rattle.sv_run.specs.declared.seeded_words.SeededWords.{SeededWords}

-- the fault of a container that did not start, from its code and the context path that goes with it
abbrev pub start_fault : NewCode → List ℕ → CommandFault
start_fault (Start NoMemory) context = fault.NoMemory
start_fault code context = fault.Start code context

-- the words of a seed, from the beginning of its key stream
abbrev pub AreWordsOf : List ℕ → SeededWords → Type 0
AreWordsOf seed words = words.generator ≡ of_seed seed

module _ {S F L : Type 0} (moving : ComponentSteps S F L) where
  -- a container starts with the deployments and the words of the seed, or its fault is reported
  abbrev pub StartsWith : List (Deployment S F L) → List ℕ → Result (Container S F L SeededWords) CommandFault → Type 0
  StartsWith deployments seed (Ok container) =
      (words : SeededWords) × AreWordsOf seed words
      × ((journal : JournalState) × Starts moving deployments words new_journal (Ok container) journal)
  StartsWith deployments seed (Err fault) =
      (words : SeededWords) × AreWordsOf seed words
      × ((journal : JournalState) × (refusal : NewFault S F L)
      × Starts moving deployments words new_journal (Err refusal) journal
      × (fault ≡ start_fault refusal.code refusal.context))

  -- A container resumes with the deployments and the words of the seed, or its fault is reported.
  abbrev pub ResumesWith : List (Deployment S F L) → List ℕ → Suspension → Result (Container S F L SeededWords × Vec SuspendedContext Global) CommandFault → Type 0
  ResumesWith deployments seed suspension (Ok started) =
      (words : SeededWords) × AreWordsOf seed words
      × ((journal : JournalState) × ResumesOr moving deployments suspension words new_journal (Ok started) journal)
  ResumesWith deployments seed suspension (Err fault) =
      (words : SeededWords) × AreWordsOf seed words
      × ((journal : JournalState) × (refusal : NewFault S F L)
      × ResumesOr moving deployments suspension words new_journal (Err refusal) journal
      × (fault ≡ start_fault refusal.code refusal.context))
