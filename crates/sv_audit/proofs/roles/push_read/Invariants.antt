use Rattle.std.proofs.Common.{◌≡◌, ◌++◌, map, take}
use Rattle.sv_constraints.specs.Roles.{roles_read}
use Rattle.sv_audit.proofs.roles.push_read.Given as goal

abbrev pub invariant-loop-name : goal.invariant-loop-name
invariant-loop-name l = map (λ role. role.now) l.roles.items ≡ map (λ role. role.now) l.initial.roles.items ++ roles_read l.declared (take l.name-index l.names)
