-- The end of the event loop: the bytes that wait are written, every connection is closed, and nothing else is done.
use Rattle.std.specs.Prelude.{◌≡◌, ◌⊎◌, ℕ, ◌<◌, List, [], ◌∷◌, Option, None, Some, true}
use Rattle.std.specs.List.{AllByRecursion}
use Rattle.sv_connection.specs.Course.{Along}
use Rattle.sv_connection.specs.Figures.{figures_of}
use Rattle.sv_connection.specs.Known.{Known, StaysOpen, found, none_left}
use Rattle.sv_connection.specs.Loops.{Goes}
use Rattle.sv_connection.specs.Notes.{Note, Of, Reports, Shows}
use Rattle.sv_connection.specs.Polling.{Polling}
use Rattle.sv_connection.specs.Rounds.{Round}
use Rattle.sv_connection.specs.Slots.{Action, Arms, Blocks, Causes, Closes, Open, TurnsAway, Writes}
use Rattle.sv_connection.specs.States.{ConnectionState}
use Rattle.sv_connection.specs.Ways.{Ways}
use Rattle.sv_connection.specs.declared.close_reason.CloseReason.TheVariants.{GivenUp, WriteFails}
use Rattle.sv_connection.specs.declared.close_reason.Closing.TheVariants.{InStages}
use Rattle.sv_connection.specs.declared.event_loop.EventLoop.{EventLoop}
use Rattle.sv_connection.specs.declared.pending_bytes.Sent.{Sent}
use Rattle.sv_connection.specs.declared.pending_bytes.Sent.TheVariants.{All, Fails, Waits}
use Rattle.sv_connection.specs.declared.poller.PollEvent.{PollEvent}
use Rattle.sv_connection.specs.declared.poller.PollEvent.TheVariants.{Asked, Crowded, Incoming, Ready, Second, Stop}
use Rattle.sv_run.specs.Reacting.{Reacting}
use Rattle.sv_wire.specs.declared.inbox.Awaited.{Awaited}

-- A write, or the wait for one.
abbrev pub IsWriting : {S : Type 0} → Action S → Type 0
IsWriting (Writes bytes) = Unit {0}
IsWriting Blocks = Unit {0}
IsWriting Arms = Unit {0}
IsWriting other = ⊥

-- An action of a connection that is ready at the end of the loop: a write, or its close.
abbrev pub IsLast : {S : Type 0} → Action S → Type 0
IsLast (Closes stream closing) = Unit {0}
IsLast action = IsWriting action

-- A note of the connection of this number at the end of the loop.
abbrev pub IsLastOf : {S : Type 0} → ℕ → Note S → Type 0
IsLastOf number (Of other action) = (other ≡ number) × IsLast action
IsLastOf number other = ⊥

-- The close of a connection at the end of the loop, or of a stream that was accepted and not opened.
abbrev pub IsClose : {S : Type 0} → Note S → Type 0
IsClose (Of number (Closes stream closing)) = Unit {0}
IsClose (Of number (TurnsAway stream closing)) = Unit {0}
IsClose other = ⊥

-- The close in stages, which is that of a connection with nothing left to write.
abbrev pub IsCloseOfWritten : {S : Type 0} → Note S → Type 0
IsCloseOfWritten (Of number (Closes stream InStages)) = Unit {0}
IsCloseOfWritten other = ⊥

-- The notes for an event of the poller at the end of the loop: a connection that is ready is only written to and closed,
-- a query is answered once, by the figures, and nothing is done for any other event.
abbrev pub IsLastRound : {S : Type 0} → PollEvent → Known S → List (Note S) → Type 0
IsLastRound (Ready number) known notes = AllByRecursion (IsLastOf number) notes
IsLastRound Asked known notes = notes ≡ Shows (figures_of known) ∷ []
IsLastRound Incoming known notes = notes ≡ []
IsLastRound Crowded known notes = notes ≡ []
IsLastRound Second known notes = notes ≡ []
IsLastRound Stop known notes = ⊥

module _ {S : Type 0} (ways : Ways S) where
  -- Only writes lead from one state to the other.
  abbrev pub WritesOn : ConnectionState S → ConnectionState S → Type 0
  WritesOn before after = (actions : List (Action S)) × AllByRecursion IsWriting actions × Along ways (Open before) actions (Open after)

  -- The bytes that wait are written: all of them, or until the connection rests, or until it ends.
  abbrev pub SendsOut : ConnectionState S → Sent → ConnectionState S → Type 0
  SendsOut before All after = WritesOn before after × (after.unsent ≡ [])
  SendsOut before Waits after = WritesOn before after × (after.rests ≡ true)
  SendsOut before Fails after =
      (between : ConnectionState S) × WritesOn before between × (Causes ways between GivenUp after.stream ⊎ Causes ways between WriteFails after.stream)
      × (after ≡ record between { stream = after.stream })

  -- The connection of a number is written to, if it is open, and the others stay.
  abbrev pub WritesOutOne : ℕ → Known S → Option Sent → Known S → Type 0
  WritesOutOne number known None known_after = known_after ≡ known
  WritesOutOne number known (Some sent) known_after =
      (at at_after : ConnectionState S) × (number < known.next) × (found known number ≡ Some at) × (found known_after number ≡ Some at_after)
      × SendsOut at sent at_after × StaysOpen number known known_after

module _ {R N C S : Type 0} (ways : Ways S) (steps : Reacting R) (awaits : R → ℕ → Awaited) (tells : C → ℕ → C → Type 0) (polls : Polling N S) where
  -- Only such notes lead from one loop to the other.
  abbrev pub OnlyDoes : (Note S → Type 0) → EventLoop R N C S → EventLoop R N C S → Type 0
  OnlyDoes is before after = (notes : List (Note S)) × AllByRecursion is notes × Goes ways steps awaits tells polls before notes after

  -- An event of the poller is handled at the end of the loop.
  abbrev pub TakesLast : PollEvent → EventLoop R N C S → EventLoop R N C S → Type 0
  TakesLast event before after = (notes : List (Note S)) × IsLastRound event before.table notes × Goes ways steps awaits tells polls before notes after

  -- The rounds at the end of the loop.
  abbrev pub LastRounds : EventLoop R N C S → List (Round S) → EventLoop R N C S → Type 0
  LastRounds before [] after = after ≡ before
  LastRounds before (round ∷ rounds) after =
      (between : EventLoop R N C S) × IsLastRound round.event before.table round.notes
      × Goes ways steps awaits tells polls before (Reports round.event ∷ round.notes) between × LastRounds between rounds after

  -- The bytes that wait are written in rounds. None follows a stop.
  abbrev pub WritesRest : EventLoop R N C S → EventLoop R N C S → Type 0
  WritesRest before after =
      (rounds : List (Round S)) × (between : EventLoop R N C S) × LastRounds before rounds between
      × ((after ≡ between) ⊎ Goes ways steps awaits tells polls between (Reports Stop ∷ []) after)

  -- Connections with nothing left to write are closed, then the bytes that wait are written, and then all that is left is
  -- closed.
  abbrev pub Finishes : EventLoop R N C S → EventLoop R N C S → Type 0
  Finishes before after =
      (written rested : EventLoop R N C S) × OnlyDoes IsCloseOfWritten before written × WritesRest written rested × OnlyDoes IsClose rested after

  -- The loop finishes, and no connection is left.
  abbrev pub EndsAll : EventLoop R N C S → EventLoop R N C S → Type 0
  EndsAll before after = Finishes before after × ((next : ℕ) × (after.table ≡ none_left before.table.limits next))
