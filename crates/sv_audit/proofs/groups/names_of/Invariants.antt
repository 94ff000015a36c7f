use Rattle.std.proofs.Common.{◌≡◌, map, take}
use Rattle.sv_audit.proofs.groups.names_of.Given as goal

abbrev pub invariant-loop-one : goal.invariant-loop-one
invariant-loop-one l = l.names.items ≡ map (λ one. one.name) (take l.one-index l.named)
