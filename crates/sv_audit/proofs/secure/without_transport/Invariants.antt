use Rattle.std.proofs.Common.{◌≡◌, ◌++◌}
use Rattle.std.specs.Vec.Iter.{into_iter_items}
use Rattle.sv_audit.specs.Secure.{secure}
use Rattle.sv_audit.proofs.secure.without_transport.Given as goal

abbrev pub invariant-loop-constraint : goal.invariant-loop-constraint
invariant-loop-constraint l = (l.secured.items ≡ secure l.yielded) × (l.yielded ++ into_iter_items l.constraint-iterator ≡ l.fn.constraints)
