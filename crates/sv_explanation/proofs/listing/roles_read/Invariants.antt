use Rattle.std.proofs.Common.{◌≡◌, take}
use Rattle.sv_constraints.specs.Roles.{roles_read}
use Rattle.sv_explanation.proofs.listing.roles_read.Given as goal

abbrev pub invariant-loop-name : goal.invariant-loop-name
invariant-loop-name l = l.roles.items ≡ roles_read l.declared (take l.name-index l.names)
