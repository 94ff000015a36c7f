-- Events one after another.
use Rattle.std.specs.Prelude.{◌≡◌, List, [], ◌∷◌, ◌++◌, Result, Ok, Err}
use Rattle.sv_journal.specs.declared.entry.Entry.{Entry}
use Rattle.sv_run.specs.Contexts.{Theory}
use Rattle.sv_run.specs.Effect.{Deed, Effect}
use Rattle.sv_run.specs.Events.{Happening, Steps}
use Rattle.sv_run.specs.State.{State}
use Rattle.sv_run.specs.declared.step_fault.StepFault.{StepFault}

abbrev pub Answer : Type 0 → Type 0
Answer Context = Result (Effect Context) StepFault

module _ {Context Words : Type 0} (theory : Theory Context Words) where
  -- each event has its answer
  abbrev pub Run : State Context Words → List Happening → List (Answer Context) → State Context Words → Type 0
  Run before [] [] after = after ≡ before
  Run before (happening ∷ happenings) (answer ∷ answers) after =
      (between : State Context Words) × Steps theory before happening answer between × Run between happenings answers after
  Run before [] (answer ∷ answers) after = ⊥
  Run before (happening ∷ happenings) [] after = ⊥

module _ {Context : Type 0} where
  -- the entries of the accepted events, in order
  abbrev pub journal_of : List (Answer Context) → List Entry
  journal_of [] = []
  journal_of (Ok effect ∷ answers) = effect.journal ++ journal_of answers
  journal_of (Err fault ∷ answers) = journal_of answers

  -- the deeds of the accepted events, in order
  abbrev pub deeds_of : List (Answer Context) → List (Deed Context)
  deeds_of [] = []
  deeds_of (Ok effect ∷ answers) = effect.deeds ++ deeds_of answers
  deeds_of (Err fault ∷ answers) = deeds_of answers
