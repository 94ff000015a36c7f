use Rattle.sv_saved_sessions.proofs.Passing.{ArePassed}
use Rattle.sv_saved_sessions.proofs.pieces.Pieces.put_items.Given as goal

abbrev pub invariant-loop-item : goal.invariant-loop-item
invariant-loop-item g l = ArePassed g.O.Stream.makes g.T.Written.bytes g.T.Written.fits l.items l.item-index l.fn.self l.fn.sink l.self l.sink
