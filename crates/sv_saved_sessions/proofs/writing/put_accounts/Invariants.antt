use Rattle.sv_saved_sessions.specs.Content.{user_bytes}
use Rattle.sv_saved_sessions.specs.Saved.{IsUser}
use Rattle.sv_saved_sessions.proofs.Passing.{ArePassed}
use Rattle.sv_saved_sessions.proofs.writing.put_accounts.Given as goal

abbrev pub invariant-loop-number : goal.invariant-loop-number
invariant-loop-number g l = ArePassed g.O.Stream.makes user_bytes IsUser l.users l.number l.fn.pieces l.fn.sink l.pieces l.sink
