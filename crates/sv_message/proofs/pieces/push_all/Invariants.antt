use Rattle.std.proofs.Common.{◌≡◌, ◌++◌, take}
use Rattle.sv_message.specs.Chunking.{joined}
use Rattle.sv_message.proofs.pieces.push_all.Given as goal

abbrev pub invariant-loop-piece : goal.invariant-loop-piece
invariant-loop-piece l = l.text.items ≡ l.initial.text.items ++ joined (take l.piece-index l.pieces)
