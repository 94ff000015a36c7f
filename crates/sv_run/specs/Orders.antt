-- The laws of cuts and of orders for every answer, including refusals. They exclude running out of memory, which stops
-- the container.
use Rattle.std.specs.Prelude.{◌≡◌, ◌≢◌, ◌⊎◌, ℕ, false, List, [], ◌∷◌, ◌++◌, map, None, Some, Ok, Err}
use Rattle.std.specs.List.{AllByRecursion}
use Rattle.sv_journal.specs.declared.entry.Entry.{Entry}
use Rattle.sv_run.specs.Contexts.{Theory}
use Rattle.sv_run.specs.Effect.{Effect, joined_all}
use Rattle.sv_run.specs.Events.{Happening, Piece, Steps, connection_of, fault_of, moment_after}
use Rattle.sv_run.specs.Laws.{AreAlike, CompletesNothing, pieces_of, text_of_parts}
use Rattle.sv_run.specs.Runs.{Answer, Run, journal_of}
use Rattle.sv_run.specs.State.{State}
use Rattle.sv_run.specs.declared.step_fault.StepFault.TheVariants.{NoMemory}

module _ {Context : Type 0} where
  abbrev pub WantsNoMemory : Answer Context → Type 0
  WantsNoMemory answer = answer ≢ Err NoMemory

  -- the effect of a piece is the joined effect of its parts; if the piece is refused, each part is refused for the same
  -- reason
  abbrev pub IsInParts : Answer Context → List (Answer Context) → Type 0
  IsInParts (Ok effect) answers = (effects : List (Effect Context)) × (answers ≡ map Ok effects) × (effect ≡ joined_all effects)
  IsInParts (Err fault) answers = AllByRecursion (λ answer. answer ≡ Err fault) answers

  -- effects that differ only in their entries, or refusals for the same reason
  abbrev pub AnswersAreAlike : Answer Context → Answer Context → Type 0
  AnswersAreAlike (Ok one) (Ok other) = AreAlike one other
  AnswersAreAlike (Err fault) (Err other) = fault ≡ other
  AnswersAreAlike (Ok one) (Err fault) = ⊥
  AnswersAreAlike (Err fault) (Ok other) = ⊥

-- the event does not raise the time; a refused event never does
abbrev pub KeepsMoment : {Context Words : Type 0} → State Context Words → Happening → Type 0
KeepsMoment state happening =
    state.stopped ≡ false → fault_of state.connections happening ≡ None → moment_after state.moment happening ≡ state.moment

-- the piece completes no item; a piece of an unknown connection completes none
abbrev pub CompletesNoItem : {Context Words : Type 0} → State Context Words → ℕ → List ℕ → Type 0
CompletesNoItem state number bytes = (state.connections.held number ≡ None) ⊎ CompletesNothing state number bytes

module _ {Context Words : Type 0} (theory : Theory Context Words) where
  -- at one time, a piece and any number of its parts have the same answers and lead to the same states
  abbrev pub PiecesAreTakenInParts : Type 0
  PiecesAreTakenInParts =
      (before after : State Context Words) (number : ℕ) (first : List ℕ) (parts : List (List ℕ)) (moment : ℕ)
      → ((answer : Answer Context) → WantsNoMemory answer → Steps theory before (Piece number (first ++ text_of_parts parts) moment) answer after
      → (answers : List (Answer Context)) × Run theory before (pieces_of number moment (first ∷ parts)) answers after × IsInParts answer answers)
      × ((answers : List (Answer Context)) → AllByRecursion WantsNoMemory answers → Run theory before (pieces_of number moment (first ∷ parts)) answers after
      → (answer : Answer Context) × Steps theory before (Piece number (first ++ text_of_parts parts) moment) answer after × IsInParts answer answers)

  -- two events, one after the other, with the entries of both
  pub record StepsBoth (before : State Context Words) (first second : Happening) (one two : Answer Context) (journal : List Entry)
      (after : State Context Words) : Type 0 where
    pub between : State Context Words
    pub begins : Steps theory before first one between
    pub goes_on : Steps theory between second two after
    pub is_joined : journal ≡ journal_of (one ∷ two ∷ [])

  -- the same two events in the other order, with answers that are alike
  pub record StepsOtherwise (before : State Context Words) (first second : Happening) (one two : Answer Context) (journal : List Entry)
      (after : State Context Words) : Type 0 where
    pub other_one : Answer Context
    pub other_two : Answer Context
    pub steps : StepsBoth before second first other_one other_two journal after
    pub first_alike : AnswersAreAlike one other_two
    pub second_alike : AnswersAreAlike two other_one

  -- a piece that completes no item commutes with an event of another connection, if neither of them raises the time:
  -- either order allows the same answers, entries and final states, even if one of the events is refused
  abbrev pub OrdersAreTakenAlike : Type 0
  OrdersAreTakenAlike =
      (before after : State Context Words) (number : ℕ) (bytes : List ℕ) (moment : ℕ) (other : Happening) (journal : List Entry)
      (one two : Answer Context) → WantsNoMemory one → WantsNoMemory two
      → connection_of other ≢ Some number
      → KeepsMoment before (Piece number bytes moment) → KeepsMoment before other
      → CompletesNoItem before number bytes
      → (StepsBoth before (Piece number bytes moment) other one two journal after
      → StepsOtherwise before (Piece number bytes moment) other one two journal after)
      × (StepsBoth before other (Piece number bytes moment) one two journal after
      → StepsOtherwise before other (Piece number bytes moment) one two journal after)
