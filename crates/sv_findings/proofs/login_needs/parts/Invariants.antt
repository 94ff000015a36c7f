use Rattle.std.proofs.Common.{◌≡◌, map, take}
use Rattle.std.specs.List.{flat_map, slice_split}
use Rattle.sv_findings.specs.LoginNeeds.{is_single}
use Rattle.sv_findings.proofs.login_needs.parts.Given as goal

abbrev pub invariant-loop-piece : goal.invariant-loop-piece
invariant-loop-piece l = map (λ part. part.now) l.parts.items ≡ flat_map (slice_split is_single) (map (λ piece. piece.now) (take l.piece-index l.piece-items))
