-- A running container, which stops at the end.
use Rattle.std.specs.Prelude.{ℕ, List}
use Rattle.sv_component.specs.Steps.{ComponentSteps}
use Rattle.sv_container.specs.Container.{state_of}
use Rattle.sv_container.specs.Stopping.{ShutsDown}
use Rattle.sv_context.specs.State.{ContextState}
use Rattle.sv_context.specs.Theory.{theory}
use Rattle.sv_run.specs.Host.{StepsSo}
use Rattle.sv_journal.specs.Journal.{JournalState}
use Rattle.sv_live.specs.declared.live.Parts.{Parts}
use Rattle.sv_run.specs.Reacting.{Reacting}
use Rattle.sv_run.specs.State.{State}
use Rattle.sv_container.specs.declared.running.Running.{Running}

-- the state of the run
abbrev pub run_of : {S F L W : Type 0} → Running S F L W → State (ContextState S F L) W
run_of running = state_of running.container

module _ {S F L W : Type 0} (moving : ComponentSteps S F L) where
  -- it handles an event as the run of a container specifies
  abbrev pub StepsOf : (W → ℕ × ℕ → W → Type 0) → Reacting (Running S F L W)
  StepsOf draws before happening result after =
      StepsSo (theory moving draws) (run_of before) happening result (run_of after)

  -- it stops as a container shuts down
  abbrev pub StopsOf : Running S F L W → JournalState → Type 0
  StopsOf running journal = (parts : List (Parts S F L)) × ShutsDown moving (run_of running) parts journal
