use Rattle.std.proofs.Common.{◌≡◌, map, take}
use Rattle.std.specs.Prelude.{filter}
use Rattle.sv_audit.specs.Same.{same_cell}
use Rattle.sv_audit.proofs.groups.names_with.Given as goal

abbrev pub invariant-loop-one : goal.invariant-loop-one
invariant-loop-one l = l.names.items ≡ map (λ one. one.name) (filter (λ one. same_cell one.cell l.cell) (take l.one-index l.named))
