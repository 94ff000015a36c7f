use Rattle.std.proofs.Common.{◌≡◌, take}
use Rattle.sv_descriptor.specs.Table.{texts}
use Rattle.sv_descriptor.specs.Users.{user_names}
use Rattle.sv_descriptor.proofs.users.user_names.Given as goal

abbrev pub invariant-loop-user : goal.invariant-loop-user
invariant-loop-user l = texts l.names.items ≡ user_names (take l.user-index l.users)
