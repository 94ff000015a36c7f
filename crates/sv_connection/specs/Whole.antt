-- The event loop as a whole: rounds, and then the end.
use Rattle.std.specs.Prelude.{ℕ, Result}
use Rattle.sv_connection.specs.Finishing.{Finishes}
use Rattle.sv_connection.specs.Known.{none_left}
use Rattle.sv_connection.specs.Polling.{Polling}
use Rattle.sv_connection.specs.Rounds.{ServesAll}
use Rattle.sv_connection.specs.Ways.{Ways}
use Rattle.sv_connection.specs.declared.event_loop.EventLoop.{EventLoop}
use Rattle.sv_connection.specs.declared.limits.Limits.{Limits}
use Rattle.sv_run.specs.Reacting.{Reacting}
use Rattle.sv_run.specs.declared.step_fault.StepFault.{StepFault}
use Rattle.sv_wire.specs.declared.inbox.Awaited.{Awaited}

-- The loop starts without connections, within these limits, and ends without: each stream that was accepted is closed.
abbrev pub Serves : {R N C S : Type 0} → Ways S → Reacting R → (R → ℕ → Awaited) → (C → ℕ → C → Type 0) → Polling N S
    → Limits → R → N → C → Result (Unit {0}) StepFault → R → N → C → Type 0
Serves {R} {N} {C} {S} ways steps awaits tells polls limits handler poller clock result handler_after poller_after clock_after =
    (served : EventLoop R N C S) × (numbers : ℕ)
    × ServesAll ways steps awaits tells polls (record { handler = handler; poller = poller; clock = clock; table = none_left limits 0 }) result served
    × Finishes ways steps awaits tells polls served
    (record { handler = handler_after; poller = poller_after; clock = clock_after; table = none_left limits numbers })
