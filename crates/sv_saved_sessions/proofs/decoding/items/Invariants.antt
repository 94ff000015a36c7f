use Rattle.std.proofs.Common.{◌≡◌, ◌-◌}
use Rattle.sv_saved_sessions.specs.Reading.{items_at}
use Rattle.sv_saved_sessions.proofs.Loop.{with_front}
use Rattle.sv_saved_sessions.proofs.decoding.items.Given as goal

abbrev pub invariant-loop : goal.invariant-loop
invariant-loop g l = with_front l.items.items (items_at g.T.Saved.at (l.count - l.counter) l.cursor) ≡ items_at g.T.Saved.at l.count l.fn.cursor
