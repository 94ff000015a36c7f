-- The rounds of the event loop: an event of the poller, and the notes for it.
use Rattle.std.specs.Prelude.{◌≡◌, ◌⊎◌, ℕ, ◌-◌, ◌^◌, List, [], ◌∷◌, ◌++◌, None, Some, length, Result, Ok, Err}
use Rattle.std.specs.List.{AllByRecursion}
use Rattle.sv_connection.specs.Asking.{AnswersOne}
use Rattle.sv_connection.specs.Figures.{figures_of}
use Rattle.sv_connection.specs.Holding.{IsSettled, StaysWithin}
use Rattle.sv_connection.specs.Known.{AreAtRest, Known, place_in}
use Rattle.sv_connection.specs.Loops.{Goes, IsTried, Refuses}
use Rattle.sv_connection.specs.Notes.{Answers, Edits, NoneWaits, Note, Of, Reports, Ticks}
use Rattle.sv_connection.specs.Polling.{Polling}
use Rattle.sv_connection.specs.Slots.{Closes, EndsUntold, OpensUntold}
use Rattle.sv_connection.specs.Ways.{Ways}
use Rattle.sv_connection.specs.declared.event_loop.EventLoop.{EventLoop}
use Rattle.sv_connection.specs.declared.poller.PollEvent.{PollEvent}
use Rattle.sv_connection.specs.declared.poller.PollEvent.TheVariants.{Asked, Crowded, Incoming, Ready, Second, Stop}
use Rattle.sv_policy.specs.declared.edit.Edit.{Edit}
use Rattle.sv_run.specs.Events.{Edited, Happening, Tick}
use Rattle.sv_run.specs.Reacting.{Reacting}
use Rattle.sv_run.specs.declared.happening.Reaction.{Reaction}
use Rattle.sv_run.specs.declared.step_fault.StepFault.{StepFault}
use Rattle.sv_run.specs.declared.step_fault.StepFault.TheVariants.{NoMemory}
use Rattle.sv_wire.specs.declared.inbox.Awaited.{Awaited}

-- A note of a connection. None is opened or closed without its event.
abbrev pub IsOfConnections : {S : Type 0} → Note S → Type 0
IsOfConnections (Of number OpensUntold) = ⊥
IsOfConnections (Of number (EndsUntold cause stream closing)) = ⊥
IsOfConnections (Of number (Closes stream closing)) = ⊥
IsOfConnections (Of number action) = Unit {0}
IsOfConnections (NoneWaits number) = Unit {0}
IsOfConnections other = ⊥

-- A round: the event that the poller reports, and the notes for it.
pub record Round (S : Type 0) : Type 0 where
  pub event : PollEvent
  pub notes : List (Note S)

module _ {S : Type 0} where
  -- A query is answered by the figures, and brings only the edit that it asked for.
  abbrev pub IsQuery : Known S → List (Note S) → Type 0
  IsQuery known notes =
      (notes ≡ Answers (figures_of known) None ∷ [])
      ⊎ ((path : List ℕ) × (edit : Edit) × (reaction : Reaction) × (notes ≡ Answers (figures_of known) (Some (path, edit)) ∷ Edits path edit reaction ∷ []))

  -- The notes for an event of the poller: an edit only for a query for it, a tick only for a second that has passed, and none
  -- after a stop.
  abbrev pub IsRound : PollEvent → Known S → List (Note S) → Type 0
  IsRound (Ready number) known notes = AllByRecursion IsOfConnections notes
  IsRound Incoming known notes = AllByRecursion IsOfConnections notes
  IsRound Crowded known notes = AllByRecursion IsOfConnections notes
  IsRound Second known notes =
      (moment : ℕ) × (reaction : Reaction) × (more : List (Note S)) × (notes ≡ Ticks moment reaction ∷ more) × AllByRecursion IsOfConnections more
  IsRound Asked known notes = IsQuery known notes
  IsRound Stop known notes = ⊥

-- Which event may be refused in a round, after these notes.
abbrev pub IsRefusedIn : {R N C S : Type 0} → PollEvent → Known S → List (Note S) → EventLoop R N C S → Happening → Type 0
IsRefusedIn Second known notes now (Tick moment) = notes ≡ []
IsRefusedIn Asked known notes now (Edited path edit) = notes ≡ Answers (figures_of known) (Some (path, edit)) ∷ []
IsRefusedIn Asked known notes now other = ⊥
IsRefusedIn {S = S} event known notes now happening =
    (first last : List (Note S)) × (notes ≡ first ++ last) × IsRound event known first × IsTried now last happening

module _ {R N C S : Type 0} (ways : Ways S) (steps : Reacting R) (awaits : R → ℕ → Awaited) (tells : C → ℕ → C → Type 0) (polls : Polling N S) where
  -- Notes of connections lead from the loop before to the loop after, whose connections are at rest if they were
  -- before. On a fault, they lead to the event that was refused, or until memory ran out.
  abbrev pub Moves : {A : Type 0} → EventLoop R N C S → Result A StepFault → EventLoop R N C S → Type 0
  Moves before (Ok done) after =
      (notes : List (Note S)) × AllByRecursion IsOfConnections notes × Goes ways steps awaits tells polls before notes after
      × (AreAtRest (place_in before.table) → AreAtRest (place_in after.table))
  Moves before (Err fault) after =
      (notes last : List (Note S)) × (middle : EventLoop R N C S) × AllByRecursion IsOfConnections notes
      × Goes ways steps awaits tells polls before (notes ++ last) middle
      × (((last ≡ []) × (fault ≡ NoMemory) × (after ≡ middle))
      ⊎ ((happening : Happening) × IsTried middle last happening × Refuses ways steps awaits tells polls middle happening fault after))

  -- The same, and the connections then hold no more bytes than they may, if they did not before.
  abbrev pub Settles : {A : Type 0} → EventLoop R N C S → Result A StepFault → EventLoop R N C S → Type 0
  Settles {A} before (Ok done) after = Moves {A = A} before (Ok done) after × StaysWithin before.table after.table
  Settles {A} before (Err fault) after = Moves {A = A} before (Err fault) after

  -- A round ends with a fault: after these notes an event was refused, or memory ran out.
  abbrev pub FailsIn : PollEvent → Known S → List (Note S) → StepFault → EventLoop R N C S → EventLoop R N C S → Type 0
  FailsIn event known notes fault middle after =
      ((fault ≡ NoMemory) × (after ≡ middle) × IsRound event known notes)
      ⊎ ((happening : Happening) × IsRefusedIn event known notes middle happening × Refuses ways steps awaits tells polls middle happening fault after)

  -- An event of the poller is handled.
  abbrev pub TakesEvent : PollEvent → EventLoop R N C S → Result (Unit {0}) StepFault → EventLoop R N C S → Type 0
  TakesEvent event before (Ok done) after =
      (notes : List (Note S)) × IsRound event before.table notes × Goes ways steps awaits tells polls before notes after
      × (IsSettled before.table → IsSettled after.table)
  TakesEvent event before (Err fault) after =
      (notes : List (Note S)) × (middle : EventLoop R N C S) × Goes ways steps awaits tells polls before notes middle
      × FailsIn event before.table notes fault middle after

  -- Rounds that each leave all connections at rest, and within the limit of what they hold.
  abbrev pub Rounds : EventLoop R N C S → List (Round S) → EventLoop R N C S → Type 0
  Rounds before [] after = after ≡ before
  Rounds before (round ∷ rounds) after =
      (between : EventLoop R N C S) × IsRound round.event before.table round.notes
      × Goes ways steps awaits tells polls before (Reports round.event ∷ round.notes) between × IsSettled between.table
      × Rounds between rounds after

  -- Rounds until the poller reports a stop, or 2^64 - 1 of them; or until an event is refused or memory runs out.
  abbrev pub ServesAll : EventLoop R N C S → Result (Unit {0}) StepFault → EventLoop R N C S → Type 0
  ServesAll before (Ok done) after =
      (rounds : List (Round S)) × (between : EventLoop R N C S) × Rounds before rounds between
      × (Goes ways steps awaits tells polls between (Reports Stop ∷ []) after ⊎ ((length rounds ≡ 2 ^ 64 - 1) × (after ≡ between)))
  ServesAll before (Err fault) after =
      (rounds : List (Round S)) × (between : EventLoop R N C S) × Rounds before rounds between
      × (event : PollEvent) × (notes : List (Note S)) × (middle : EventLoop R N C S)
      × Goes ways steps awaits tells polls between (Reports event ∷ notes) middle × FailsIn event between.table notes fault middle after

-- A tick: the clock gives its time, and the handler takes or refuses it.
abbrev pub TicksOnce : {R N C S : Type 0} → Reacting R → (C → ℕ → C → Type 0) → EventLoop R N C S → Result (Unit {0}) StepFault → EventLoop R N C S → Type 0
TicksOnce steps tells before (Ok done) after =
    (moment : ℕ) × (reaction : Reaction) × tells before.clock moment after.clock × steps before.handler (Tick moment) (Ok reaction) after.handler
    × (after ≡ record before { handler = after.handler; clock = after.clock })
TicksOnce steps tells before (Err fault) after =
    (moment : ℕ) × tells before.clock moment after.clock × steps before.handler (Tick moment) (Err fault) after.handler
    × (after ≡ record before { handler = after.handler; clock = after.clock })

-- A query: the poller answers it by the figures, and the handler takes only the edit that it asked for.
abbrev pub AsksOnce : {R N C S : Type 0} → Reacting R → Polling N S → EventLoop R N C S → Result (Unit {0}) StepFault → EventLoop R N C S → Type 0
AsksOnce steps polls before result after =
    AnswersOne steps polls (figures_of before.table) before.poller before.handler result after.poller after.handler
    × (after ≡ record before { handler = after.handler; poller = after.poller })
