-- The actions of a connection, and where they lead.
use Rattle.std.specs.Prelude.{◌≡◌, ◌⊎◌, ℕ, ◌<◌, false, true, List, [], ◌++◌, length}
use Rattle.sv_connection.specs.Closing.{closing_of, last_closing}
use Rattle.sv_connection.specs.Phases.{is_closing, phase_after, under_way_after}
use Rattle.sv_connection.specs.Pieces.{IsPiece}
use Rattle.sv_connection.specs.States.{ConnectionState}
use Rattle.sv_connection.specs.Ways.{Ways}
use Rattle.sv_connection.specs.declared.close_reason.CloseReason.{CloseReason}
use Rattle.sv_connection.specs.declared.close_reason.CloseReason.TheVariants.{AnswerCloses, GivenUp, PeerEnded, ReadFails, WriteFails}
use Rattle.sv_connection.specs.declared.close_reason.Closing.{Closing}
use Rattle.sv_connection.specs.declared.close_reason.Closing.TheVariants.{AtOnce}
use Rattle.sv_connection.specs.declared.phase.Phase.{Phase}
use Rattle.sv_connection.specs.declared.phase.Phase.TheVariants as phase
use Rattle.sv_run.specs.declared.happening.Reaction.{Reaction}
use Rattle.sv_streams.specs.Calls.{Gave, ReadFailed, Took, WriteFailed}
use Rattle.sv_wire.specs.declared.inbox.Awaited.{Awaited}
use Rattle.sv_wire.specs.declared.inbox.Awaited.TheVariants.{Message}

-- The state of a number: no connection had it; a stream was accepted under it; its connection is open; or its stream
-- was closed.
pub data Slot (S : Type 0) : Type 0 where
  Unused : Slot S
  Accepted : S → Slot S
  Open : ConnectionState S → Slot S
  Over : Slot S

-- One thing done of a connection.
pub data Action (S : Type 0) : Type 0 where
  -- Its stream is accepted.
  Accepts : S → Action S
  -- It is opened.
  Opens : Reaction → Action S
  -- A read gives these bytes.
  Reads : List ℕ → Action S
  -- A piece is passed to the handler at this time, with its reaction and what the container then awaits.
  Hands : List ℕ → ℕ → Reaction → Awaited → Action S
  -- A write takes these bytes.
  Writes : List ℕ → Action S
  -- The next call would block.
  Blocks : Action S
  -- The stream is armed.
  Arms : Action S
  -- It ends for this reason: its stream is closed in this way, and the handler takes the event.
  Ends : CloseReason → S → Closing → Reaction → Action S
  -- It is opened, and the handler refuses the event.
  OpensUntold : Action S
  -- It ends so, and the handler refuses the event.
  EndsUntold : CloseReason → S → Closing → Action S
  -- Its stream is closed before it was opened.
  TurnsAway : S → Closing → Action S
  -- Its stream is closed in this way, and the handler takes no event.
  Closes : S → Closing → Action S

-- The phase before the first byte.
abbrev pub first_phase : Phase
first_phase = phase.Open Message

module _ {S : Type 0} where
  -- The state of a connection that was just opened.
  abbrev pub fresh : S → ConnectionState S
  fresh stream = record { stream = stream; ahead = []; unsent = []; phase = first_phase; rests = true; under_way = 0 }

  -- No bytes wait to be passed to the handler or to be written, and the connection is not closing.
  abbrev pub IsIdle : ConnectionState S → Type 0
  IsIdle at = (at.ahead ≡ []) × (at.unsent ≡ []) × (is_closing at.phase ≡ false)

  -- A piece can be passed to the handler: no bytes wait to be written, and the connection is not closing.
  abbrev pub HasPiece : ConnectionState S → Type 0
  HasPiece at = (0 < length at.ahead) × (at.unsent ≡ []) × (is_closing at.phase ≡ false)

  -- The connection needs to be read or written.
  abbrev pub Needs : ConnectionState S → Type 0
  Needs at = IsIdle at ⊎ (0 < length at.unsent)

  module _ (ways : Ways S) where
    -- Why a connection ends, and its stream then.
    abbrev pub Causes : ConnectionState S → CloseReason → S → Type 0
    Causes at PeerEnded stream = IsIdle at × ways.makes at.stream (Gave []) stream
    Causes at ReadFails stream = IsIdle at × ways.makes at.stream ReadFailed stream
    Causes at WriteFails stream = (0 < length at.unsent) × ways.makes at.stream WriteFailed stream
    Causes at AnswerCloses stream = (at.unsent ≡ []) × (is_closing at.phase ≡ true) × (stream ≡ at.stream)
    Causes at GivenUp stream = (stream ≡ at.stream) ⊎ ways.arms at.stream stream

    -- An action leads from one slot of a number to the next. None leads on from the end.
    abbrev pub Leads : Slot S → Action S → Slot S → Type 0
    Leads Unused (Accepts stream) (Accepted accepted) =
        accepted ≡ stream
    Leads (Accepted stream) (Opens reaction) (Open after) =
        after ≡ fresh stream
    Leads (Accepted stream) OpensUntold (Open after) =
        after ≡ fresh stream
    Leads (Accepted stream) (TurnsAway closed closing) Over =
        (closed ≡ stream) × (closing ≡ AtOnce)
    Leads (Open at) (Reads bytes) (Open after) =
        IsIdle at × (0 < length bytes) × ways.makes at.stream (Gave bytes) after.stream
        × (after ≡ record at { stream = after.stream; ahead = bytes; rests = false })
    Leads (Open at) (Hands bytes moment reaction awaited) (Open after) =
        HasPiece at × IsPiece bytes × (at.ahead ≡ bytes ++ after.ahead)
        × (after ≡ record at {
          ahead = after.ahead;
          unsent = reaction.sends;
          phase = phase_after reaction awaited;
          rests = false;
          under_way = under_way_after at.phase at.under_way (length bytes) reaction.sends (phase_after reaction awaited);
        })
    Leads (Open at) (Writes bytes) (Open after) =
        (0 < length bytes) × ways.makes at.stream (Took bytes) after.stream × (at.unsent ≡ bytes ++ after.unsent)
        × (after ≡ record at { stream = after.stream; unsent = after.unsent; rests = false })
    Leads (Open at) Blocks (Open after) =
        Needs at × ways.blocks at.stream after.stream × (after ≡ record at { stream = after.stream; rests = true })
    Leads (Open at) Arms (Open after) =
        Needs at × ways.arms at.stream after.stream × (after ≡ record at { stream = after.stream; rests = true })
    Leads (Open at) (Ends cause stream closing reaction) Over =
        Causes at cause stream × (closing ≡ closing_of at cause)
    Leads (Open at) (EndsUntold cause stream closing) Over =
        Causes at cause stream × (closing ≡ closing_of at cause)
    Leads (Open at) (Closes stream closing) Over =
        (Causes at GivenUp stream ⊎ Causes at WriteFails stream) × (closing ≡ last_closing at)
    Leads other action place = ⊥
