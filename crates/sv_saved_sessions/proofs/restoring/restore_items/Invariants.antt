use Rattle.sv_saved_sessions.proofs.Restored.{IsRestoredSoFar}
use Rattle.sv_saved_sessions.proofs.restoring.restore_items.Given as goal

abbrev pub invariant-loop : goal.invariant-loop
invariant-loop l = IsRestoredSoFar l.fn.sessions l.count l.counter l.fn.cursor l.sessions l.cursor
