use Rattle.std.proofs.Common.{◌≡◌, map, take, not}
use Rattle.std.specs.Prelude.{filter}
use Rattle.sv_audit.specs.Access.{asking}
use Rattle.sv_audit.specs.MethodIndex.{indexed_cell}
use Rattle.sv_audit.specs.Same.{same_cell}
use Rattle.sv_audit.proofs.groups.exceptions.Given as goal

abbrev pub invariant-loop-name : goal.invariant-loop-name
invariant-loop-name l = l.named.items ≡ filter (λ one. not (same_cell one.cell l.others)) (map (indexed_cell (asking l.fn.whose) l.index l.rules l.pattern) (map (λ name. name.now) (take l.name-index l.name-items)))
