-- How one connection ends.
use Rattle.std.specs.Prelude.{◌≡◌, ◌⊎◌, ℕ, ◌+◌, ◌<◌, length, true, Bool, false, None, Some, Result, Ok, Err}
use Rattle.sv_connection.specs.Closing.{closing_of, last_closing}
use Rattle.sv_connection.specs.Holding.{StaysWithin}
use Rattle.sv_connection.specs.Known.{ForgetsOne, found}
use Rattle.sv_connection.specs.Notes.{over_by}
use Rattle.sv_connection.specs.Polling.{Close, Polling}
use Rattle.sv_connection.specs.States.{ConnectionState}
use Rattle.sv_connection.specs.Turns.{over_event}
use Rattle.sv_connection.specs.declared.close_reason.CloseReason.{CloseReason}
use Rattle.sv_connection.specs.declared.close_reason.Closing.{Closing}
use Rattle.sv_connection.specs.declared.close_reason.Closing.TheVariants.{AtOnce}
use Rattle.sv_connection.specs.declared.event_loop.EventLoop.{EventLoop}
use Rattle.sv_run.specs.Reacting.{Reacting}
use Rattle.sv_run.specs.declared.happening.Reaction.{Reaction}
use Rattle.sv_run.specs.declared.step_fault.StepFault.{StepFault}

module _ {R N C S : Type 0} (polls : Polling N S) where
  -- The connection of a number is removed from the table, and the poller closes its stream.
  pub record Leaves (number : ℕ) (at : ConnectionState S) (closing : Closing) (before after : EventLoop R N C S) : Type 0 where
    pub is_used : number < before.table.next
    pub is_found : found before.table number ≡ Some at
    pub closes : polls before.poller (Close number at.stream closing) after.poller
    pub forgets : ForgetsOne number before.table after.table
    pub one_fewer : length before.table.entries ≡ length after.table.entries + 1
    pub within : StaysWithin before.table after.table
    pub same_handler : after.handler ≡ before.handler
    pub same_clock : after.clock ≡ before.clock

  -- The connection of a number is closed for this reason, or none is open.
  abbrev pub ClosesOne : ℕ → CloseReason → EventLoop R N C S → Bool → EventLoop R N C S → Type 0
  ClosesOne number cause before true after = (at : ConnectionState S) × Leaves number at (closing_of at cause) before after
  ClosesOne number cause before false after = (found before.table number ≡ None) × (after ≡ before)

  -- The connection of a number is closed at the end of the loop, or none is open.
  abbrev pub ClosesLast : ℕ → EventLoop R N C S → EventLoop R N C S → Type 0
  ClosesLast number before after =
      ((at : ConnectionState S) × Leaves number at (last_closing at) before after) ⊎ ((found before.table number ≡ None) × (after ≡ before))

  -- The accepted stream, if any, is closed, and its number is used.
  abbrev pub TurnsOneAway : EventLoop R N C S → EventLoop R N C S → Type 0
  TurnsOneAway before after =
      ((before.table.accepted ≡ None) × (after ≡ before))
      ⊎ ((stream : S) × (poller : N) × (before.table.accepted ≡ Some stream) × (found before.table before.table.next ≡ None)
      × polls before.poller (Close before.table.next stream AtOnce) poller
      × (after ≡ record before { poller = poller; table = record before.table { next = before.table.next + 1; accepted = None } }))

  -- The connection of a number is closed for this reason, and the handler takes or refuses the event of its end; or
  -- none is open.
  abbrev pub EndsOne : Reacting R → ℕ → CloseReason → EventLoop R N C S → Result (Unit {0}) StepFault → EventLoop R N C S → Type 0
  EndsOne steps number cause before (Ok done) after =
      ((between : EventLoop R N C S) × ClosesOne number cause before true between
      × ((reaction : Reaction) × steps between.handler (over_event number (over_by cause)) (Ok reaction) after.handler)
      × (after ≡ record between { handler = after.handler }))
      ⊎ ((found before.table number ≡ None) × (after ≡ before))
  EndsOne steps number cause before (Err fault) after =
      (between : EventLoop R N C S) × ClosesOne number cause before true between
      × steps between.handler (over_event number (over_by cause)) (Err fault) after.handler
      × (after ≡ record between { handler = after.handler })
