-- The run of a script by a container, from input bytes to output bytes.
use Rattle.std.specs.Prelude.{◌≡◌, ℕ, List, Result, Ok, Err}
use Rattle.sv_component.specs.Steps.{ComponentSteps}
use Rattle.sv_container.specs.Starting.{Starts}
use Rattle.sv_container.specs.declared.container.Container.{Container}
use Rattle.sv_container.specs.declared.new_fault.NewFault.{NewFault}
use Rattle.sv_lifecycle.specs.declared.deployment.Deployment.{Deployment}
use Rattle.sv_journal.specs.Journal.{JournalState, new_journal}
use Rattle.sv_journal.specs.declared.start_code.NewCode.{NewCode}
use Rattle.sv_journal.specs.declared.start_code.NewCode.TheVariants as codes
use Rattle.sv_journal.specs.declared.start_code.StartCode.TheVariants as reasons
use Rattle.sv_script.specs.declared.replay_fault.ReplayFault.{ReplayFault}
use Rattle.sv_script.specs.declared.replay_fault.ReplayFault.TheVariants as replays
use Rattle.sv_script.specs.Printed.{start_text}
use Rattle.sv_script.specs.Whole.{PrintsOf, RunsWhole}
use Rattle.sv_container.specs.Running.{StepsOf, StopsOf}
use Rattle.sv_run.specs.declared.run_fault.RunFault.{RunFault}
use Rattle.sv_run.specs.declared.run_fault.RunFault.TheVariants.{Script, Start, Output, NoMemory}
use Rattle.sv_streams.specs.Calls.{Making}
use Rattle.sv_run.specs.Counted.{DrawsCount}
use Rattle.sv_run.specs.declared.counted_words.CountedWords.{CountedWords}

-- how counted words are drawn
abbrev pub draws : CountedWords → ℕ × ℕ → CountedWords → Type 0
draws before pair after = DrawsCount before.drawn pair after.drawn

-- no word has been drawn
abbrev pub AreFresh : CountedWords → Type 0
AreFresh words = words.drawn ≡ 0

-- the fault of a run from the fault of the replay of its script
abbrev pub fault_of : ReplayFault → RunFault
fault_of (replays.Script line) = Script line
fault_of replays.Output = Output
fault_of replays.NoMemory = NoMemory

abbrev pub ended_by : Result (Unit {0}) ReplayFault → Result (Unit {0}) RunFault
ended_by (Ok done) = Ok done
ended_by (Err fault) = Err (fault_of fault)

-- a start was refused: its entries are the whole output
abbrev pub refused_by : NewCode → List ℕ → Result (Unit {0}) ReplayFault → Result (Unit {0}) RunFault
refused_by code context (Ok done) = Err (Start code context)
refused_by code context (Err fault) = Err (fault_of fault)

abbrev pub PrintsRefused : {O : Type 0} → Making O → NewCode → List ℕ → JournalState → O → Result (Unit {0}) RunFault → O → Type 0
PrintsRefused takes code context started output result after =
    (printed : Result (Unit {0}) ReplayFault) × PrintsOf takes start_text started output printed after × (result ≡ refused_by code context printed)

-- if memory ran out, nothing is written
abbrev pub EndsUnstarted : {O : Type 0} → Making O → NewCode → List ℕ → JournalState → O → Result (Unit {0}) RunFault → O → Type 0
EndsUnstarted takes (codes.Start reasons.NoMemory) context started output result after = (result ≡ Err NoMemory) × (after ≡ output)
EndsUnstarted takes code context started output result after = PrintsRefused takes code context started output result after

module _ {S F L I O : Type 0} (moving : ComponentSteps S F L) (gives : Making I)
    (takes : Making O) where
  -- the rest of the run, after a start
  abbrev pub Follows : Result (Container S F L CountedWords) (NewFault S F L) → JournalState → I → O → Result (Unit {0}) RunFault → I → O → Type 0
  Follows (Ok container) started script output result script_after output_after =
      (ended : Result (Unit {0}) ReplayFault)
      × RunsWhole (StepsOf moving draws) (StopsOf moving) gives takes
      started (record { container = container }) script output ended script_after output_after
      × (result ≡ ended_by ended)
  Follows (Err fault) started script output result script_after output_after =
      (script_after ≡ script) × EndsUnstarted takes fault.code fault.context started output result output_after

  -- the deployments are started with counted words, the script is replayed, and everything that was started is stopped
  pub record RunsScript (deployments : List (Deployment S F L)) (script : I) (output : O) (result : Result (Unit {0}) RunFault) (script_after : I)
      (output_after : O) : Type 0 where
    pub words : CountedWords
    pub are_fresh : AreFresh words
    pub begun : Result (Container S F L CountedWords) (NewFault S F L)
    pub started : JournalState
    pub starts : Starts moving deployments words new_journal begun started
    pub follows : Follows begun started script output result script_after output_after
