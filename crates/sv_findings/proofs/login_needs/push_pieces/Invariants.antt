use Rattle.std.proofs.Common.{◌≡◌, ◌++◌, map, take}
use Rattle.sv_findings.proofs.login_needs.push_pieces.Given as goal

abbrev pub invariant-loop-piece : goal.invariant-loop-piece
invariant-loop-piece l = map (λ part. part.now) l.parts.items ≡ map (λ part. part.now) l.initial.parts.items ++ map (λ piece. piece.now) (take l.piece-index l.piece-items)
