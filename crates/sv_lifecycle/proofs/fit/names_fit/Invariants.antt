use Rattle.std.proofs.Common.{◌≡◌, map, take}
use Rattle.sv_lifecycle.proofs.fit.names_fit.Given as goal

abbrev pub invariant-loop-place : goal.invariant-loop-place
invariant-loop-place g l = map (λ n. n.name) (take l.place l.named) ≡ map g.D.Named.its_name (take l.place l.declared)
