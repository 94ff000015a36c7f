-- The event loop before and after its notes.
use Rattle.std.specs.Prelude.{◌≡◌, ℕ, List, [], ◌∷◌, Err, length}
use Rattle.sv_connection.specs.Connection.{AreTold}
use Rattle.sv_connection.specs.Course.{Along}
use Rattle.sv_connection.specs.Counting.{Counts}
use Rattle.sv_connection.specs.Known.{most_open, place_in}
use Rattle.sv_connection.specs.Notes.{Note, Of, Went, actions_of, over_by, poller_calls}
use Rattle.sv_connection.specs.Polling.{AreCalled, Polling}
use Rattle.sv_connection.specs.Slots.{EndsUntold, Open, OpensUntold}
use Rattle.sv_connection.specs.States.{ConnectionState}
use Rattle.sv_connection.specs.Steps.{IsNextPiece}
use Rattle.sv_connection.specs.Ways.{Ways}
use Rattle.sv_connection.specs.declared.close_reason.CloseReason.{CloseReason}
use Rattle.sv_connection.specs.declared.close_reason.Closing.{Closing}
use Rattle.sv_connection.specs.declared.event_loop.EventLoop.{EventLoop}
use Rattle.sv_connection.specs.declared.over.Over.TheVariants.{Closed, Lost as IsLost}
use Rattle.sv_run.specs.Events.{Ended, Happening, Lost, Opened, Piece, Tick}
use Rattle.sv_run.specs.Reacting.{Reacting}
use Rattle.sv_run.specs.declared.step_fault.StepFault.{StepFault}
use Rattle.sv_wire.specs.declared.inbox.Awaited.{Awaited}

-- The time of an event, if any.
abbrev pub times_of : Happening → List ℕ
times_of (Piece number bytes moment) = moment ∷ []
times_of (Tick moment) = moment ∷ []
times_of other = []

module _ {R N C S : Type 0} (ways : Ways S) (steps : Reacting R) (awaits : R → ℕ → Awaited) (tells : C → ℕ → C → Type 0) (polls : Polling N S) where
  -- The handler takes the events of notes, the clock gives their times, the poller makes their calls, and each number
  -- is led by its actions from its slot before to its slot after. The limits stay, and a connection is opened only if
  -- fewer are open than may be.
  pub record Goes (before : EventLoop R N C S) (notes : List (Note S)) (after : EventLoop R N C S) : Type 0 where
    pub went : Went steps awaits tells before.handler before.clock notes after.handler after.clock
    pub polled : AreCalled polls before.poller (poller_calls notes) after.poller
    pub courses : (number : ℕ) → Along ways (place_in before.table number) (actions_of number notes) (place_in after.table number)
    pub limits : after.table.limits ≡ before.table.limits
    pub counts : Counts (most_open before.table.limits) (length before.table.entries) notes (length after.table.entries)

  -- The handler refuses an event, whose time the clock gives. Nothing else is done.
  abbrev pub Refuses : EventLoop R N C S → Happening → StepFault → EventLoop R N C S → Type 0
  Refuses before happening fault after =
      steps before.handler happening (Err fault) after.handler × AreTold tells before.clock (times_of happening) after.clock
      × (after ≡ record before { handler = after.handler; clock = after.clock })

module _ {R N C S : Type 0} where
  -- The actions for an event that is then refused. A refused piece is the next one of its connection.
  abbrev pub IsTried : EventLoop R N C S → List (Note S) → Happening → Type 0
  IsTried now notes (Opened number) = notes ≡ Of number OpensUntold ∷ []
  IsTried now notes (Piece number bytes moment) =
      (notes ≡ []) × ((at : ConnectionState S) × (place_in now.table number ≡ Open at) × IsNextPiece at bytes)
  IsTried now notes (Ended number) =
      (cause : CloseReason) × (stream : S) × (closing : Closing) × (over_by cause ≡ Closed) × (notes ≡ Of number (EndsUntold cause stream closing) ∷ [])
  IsTried now notes (Lost number) =
      (cause : CloseReason) × (stream : S) × (closing : Closing) × (over_by cause ≡ IsLost) × (notes ≡ Of number (EndsUntold cause stream closing) ∷ [])
  IsTried now notes other = ⊥
