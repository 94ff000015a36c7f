-- One connection, as far as it gets without blocking.
use Rattle.std.specs.Prelude.{◌≡◌, ◌⊎◌, ℕ, ◌+◌, ◌<◌, ◌≤◌, true, List, [], ◌∷◌, ◌++◌, Option, None, Some, Result, Ok, Err, flat_map, length}
use Rattle.sv_connection.specs.Known.{Known, StaysOpen, found}
use Rattle.sv_connection.specs.LoopLaws.{calls_of}
use Rattle.sv_connection.specs.Notes.{Talks}
use Rattle.sv_connection.specs.Pieces.{IsPiece}
use Rattle.sv_connection.specs.Slots.{Arms, Causes, Action, Hands, HasPiece, Leads, Open, Blocks, Reads, Writes}
use Rattle.sv_connection.specs.States.{ConnectionState}
use Rattle.sv_connection.specs.Ways.{Ways}
use Rattle.sv_connection.specs.declared.allowance.Allowance.{Allowance}
use Rattle.sv_connection.specs.declared.close_reason.CloseReason.{CloseReason}
use Rattle.sv_connection.specs.declared.close_reason.CloseReason.TheVariants.{GivenUp}
use Rattle.sv_connection.specs.declared.limits.TheConstants.{BYTES_AT_ONCE, CALLS_AT_ONCE}
use Rattle.sv_connection.specs.declared.step.Step.{Step}
use Rattle.sv_connection.specs.declared.step.Step.TheVariants.{GoesOn, Rests, IsOver}
use Rattle.sv_run.specs.Events.{Piece}
use Rattle.sv_run.specs.Reacting.{Reacting}
use Rattle.sv_run.specs.declared.happening.Reaction.{Reaction}
use Rattle.sv_run.specs.declared.step_fault.StepFault.{StepFault}
use Rattle.sv_run.specs.declared.step_fault.StepFault.TheVariants.{NoMemory}
use Rattle.sv_streams.specs.Calls.{taken}
use Rattle.sv_text.specs.declared.no_memory.NoMemory.{NoMemory as OutOfMemory}
use Rattle.sv_wire.specs.declared.inbox.Awaited.{Awaited}

-- An action takes its calls and the bytes that it writes from the allowance.
abbrev pub Spends : {S : Type 0} → Allowance → Action S → Allowance → Type 0
Spends before action after =
    (length (calls_of action) + after.calls ≤ before.calls) × (length (taken (calls_of action)) + after.bytes ≤ before.bytes)

-- The actions of one turn: at most `CALLS_AT_ONCE` calls that do not block, and at most `BYTES_AT_ONCE` bytes written.
abbrev pub IsTurn : {S : Type 0} → List (Action S) → Type 0
IsTurn actions = (length (flat_map calls_of actions) ≤ CALLS_AT_ONCE) × (length (taken (flat_map calls_of actions)) ≤ BYTES_AT_ONCE)

module _ {S : Type 0} where
  -- These bytes are the next piece that waits to be passed to the handler.
  abbrev pub IsNextPiece : ConnectionState S → List ℕ → Type 0
  IsNextPiece at bytes = HasPiece at × IsPiece bytes × ((rest : List ℕ) × (at.ahead ≡ bytes ++ rest))

  -- A call has ended the connection for this reason: only its stream is another.
  abbrev pub StopsFor : Ways S → ConnectionState S → CloseReason → ConnectionState S → Type 0
  StopsFor ways at cause at_after = Causes ways at cause at_after.stream × (at_after ≡ record at { stream = at_after.stream })

module _ {S : Type 0} (ways : Ways S) where
  -- The stream is armed, or this failed and the connection is given up.
  abbrev pub IsArmed : ConnectionState S → Step → ConnectionState S → Type 0
  IsArmed before GoesOn after = ⊥
  IsArmed before Rests after = Leads ways (Open before) Arms (Open after)
  IsArmed before (IsOver cause) after = (cause ≡ GivenUp) × StopsFor ways before GivenUp after

  -- The next call would block, or the stream is armed.
  abbrev pub ComesToRest : ConnectionState S → ConnectionState S → Type 0
  ComesToRest before after = Leads ways (Open before) Blocks (Open after) ⊎ Leads ways (Open before) Arms (Open after)

  -- A read is tried, or others are served.
  abbrev pub TakesIn : ConnectionState S → Allowance → Result Step OutOfMemory → ConnectionState S → Allowance → Type 0
  TakesIn before left (Ok GoesOn) after left_after =
      (bytes : List ℕ) × Leads ways (Open before) (Reads bytes) (Open after) × Spends {S = S} left (Reads bytes) left_after
  TakesIn before left (Ok Rests) after left_after = ComesToRest before after
  TakesIn before left (Ok (IsOver cause)) after left_after = StopsFor ways before cause after
  TakesIn before left (Err refused) after left_after = after ≡ before

  -- A write is tried, or others are served.
  abbrev pub SendsOn : ConnectionState S → Allowance → Step → ConnectionState S → Allowance → Type 0
  SendsOn before left GoesOn after left_after =
      (bytes : List ℕ) × Leads ways (Open before) (Writes bytes) (Open after) × Spends {S = S} left (Writes bytes) left_after
  SendsOn before left Rests after left_after = ComesToRest before after
  SendsOn before left (IsOver cause) after left_after = StopsFor ways before cause after

module _ {R C S : Type 0} (steps : Reacting R) (tells : C → ℕ → C → Type 0) (number : ℕ) where
  -- The handler refuses the next piece of the connection.
  abbrev pub RefusesPiece : ConnectionState S → StepFault → R → C → R → C → Type 0
  RefusesPiece at fault before clock after clock_after =
      (bytes : List ℕ) × (moment : ℕ) × IsNextPiece at bytes × tells clock moment clock_after × steps before (Piece number bytes moment) (Err fault) after

  -- The next piece of the connection is refused, or memory runs out before it.
  abbrev pub FailsAt : ConnectionState S → StepFault → R → C → R → C → Type 0
  FailsAt at fault before clock after clock_after =
      ((fault ≡ NoMemory) × (after ≡ before) × (clock_after ≡ clock)) ⊎ RefusesPiece at fault before clock after clock_after

module _ {R C S : Type 0} (ways : Ways S) (steps : Reacting R) (awaits : R → ℕ → Awaited) (tells : C → ℕ → C → Type 0) (number : ℕ) (before : R) (clock : C) where
  module _ (at : ConnectionState S) where
    -- A piece is passed to the handler.
    abbrev pub HandsOn : Result (Unit {0}) StepFault → R → C → ConnectionState S → Type 0
    HandsOn (Ok done) after clock_after at_after =
        (bytes : List ℕ) × (moment : ℕ) × (reaction : Reaction) × (awaited : Awaited) × tells clock moment clock_after
        × steps before (Piece number bytes moment) (Ok reaction) after × (awaits after number ≡ awaited) × Leads ways (Open at) (Hands bytes moment reaction awaited) (Open at_after)
    HandsOn (Err fault) after clock_after at_after = RefusesPiece steps tells number at fault before clock after clock_after × (at_after ≡ at)

    -- One step is taken, within the allowance.
    abbrev pub StepsOnce : Allowance → Result Step StepFault → R → C → ConnectionState S → Allowance → Type 0
    StepsOnce left (Ok GoesOn) after clock_after at_after left_after =
        (action : Action S) × Talks steps awaits tells ways number before clock (Open at) (action ∷ []) after clock_after (Open at_after) × Spends left action left_after
    StepsOnce left (Ok Rests) after clock_after at_after left_after =
        (action : Action S) × Talks steps awaits tells ways number before clock (Open at) (action ∷ []) after clock_after (Open at_after)
        × (calls_of action ≡ []) × (at_after.rests ≡ true)
    StepsOnce left (Ok (IsOver cause)) after clock_after at_after left_after =
        (after ≡ before) × (clock_after ≡ clock) × StopsFor ways at cause at_after
    StepsOnce left (Err fault) after clock_after at_after left_after =
        FailsAt steps tells number at fault before clock after clock_after × (at_after ≡ at)

    -- The connection is driven until it rests, others are served, or it ends.
    abbrev pub Drives : Result (Option CloseReason) StepFault → R → C → ConnectionState S → Type 0
    Drives (Ok None) after clock_after at_after =
        (actions : List (Action S)) × Talks steps awaits tells ways number before clock (Open at) actions after clock_after (Open at_after)
        × IsTurn actions × (at_after.rests ≡ true)
    Drives (Ok (Some cause)) after clock_after at_after =
        (actions : List (Action S)) × (between : ConnectionState S)
        × Talks steps awaits tells ways number before clock (Open at) actions after clock_after (Open between)
        × IsTurn actions × StopsFor ways between cause at_after
    Drives (Err fault) after clock_after at_after =
        (actions : List (Action S)) × (middle : R) × (clock_middle : C)
        × Talks steps awaits tells ways number before clock (Open at) actions middle clock_middle (Open at_after) × IsTurn actions
        × FailsAt steps tells number at_after fault middle clock_middle after clock_after

  -- The connection of a number is driven, if it is open, and the others stay.
  abbrev pub DrivesOne : Known S → Result (Option CloseReason) StepFault → R → C → Known S → Type 0
  DrivesOne known result after clock_after known_after =
      ((result ≡ Ok None) × (after ≡ before) × (clock_after ≡ clock) × (known_after ≡ known))
      ⊎ ((at at_after : ConnectionState S) × (number < known.next) × (found known number ≡ Some at) × (found known_after number ≡ Some at_after)
      × StaysOpen number known known_after × Drives at result after clock_after at_after)
