-- The theorem for runs that run out of memory: it holds up to the event that does.
use Rattle.std.specs.Prelude.{◌≡◌, ℕ, false, List, ◌∷◌, ◌++◌, Err}
use Rattle.std.specs.Bool.{MatchBool}
use Rattle.std.specs.List.{AllByRecursion}
use Rattle.sv_component.specs.Steps.{ComponentSteps}
use Rattle.sv_headline.specs.Record.{IsLawfulRun}
use Rattle.sv_context.specs.State.{ContextState}
use Rattle.sv_context.specs.Theory.{theory}
use Rattle.sv_run.specs.Events.{Breaks, Happening}
use Rattle.sv_run.specs.Runs.{Answer, Run}
use Rattle.sv_run.specs.State.{State}
use Rattle.sv_run.specs.declared.step_fault.StepFault.TheVariants.{NoMemory, Stopped}

module _ {S F L Words : Type 0} (moving : ComponentSteps S F L)
    (draws : Words → ℕ × ℕ → Words → Type 0) where
  -- an event ran out of memory: the events before it are a lawful run, it broke off, and each later one is refused
  pub record IsLawfulUpTo (before : State (ContextState S F L) Words) (happenings : List Happening) (answers : List (Answer (ContextState S F L)))
      (after : State (ContextState S F L) Words) : Type 0 where
    pub front : List Happening
    pub wanting : Happening
    pub behind : List Happening
    pub are : happenings ≡ front ++ wanting ∷ behind
    pub answered : List (Answer (ContextState S F L))
    pub refused : List (Answer (ContextState S F L))
    pub are_answered : answers ≡ answered ++ Err NoMemory ∷ refused
    pub between : State (ContextState S F L) Words
    pub runs : Run (theory moving draws) before front answered between
    pub lawful : IsLawfulRun moving draws before front answered between
    pub breaks : Breaks (theory moving draws) between wanting after
    pub refuses : AllByRecursion (λ answer. answer ≡ Err Stopped) refused

  -- a run is lawful, or it is lawful until memory runs out
  abbrev pub IsLawfulUntilRefused : State (ContextState S F L) Words → List Happening → List (Answer (ContextState S F L)) → State (ContextState S F L) Words
      → Type 0
  IsLawfulUntilRefused before happenings answers after =
      MatchBool after.stopped (IsLawfulUpTo before happenings answers after) (IsLawfulRun moving draws before happenings answers after)

  abbrev pub EveryRunIsLawfulUntilRefused : Type 0
  EveryRunIsLawfulUntilRefused =
      (before after : State (ContextState S F L) Words) (happenings : List Happening) (answers : List (Answer (ContextState S F L)))
      → before.stopped ≡ false → Run (theory moving draws) before happenings answers after
      → IsLawfulUntilRefused before happenings answers after
