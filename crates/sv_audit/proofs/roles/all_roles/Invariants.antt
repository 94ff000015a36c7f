use Rattle.std.proofs.Common.{◌≡◌, map, take}
use Rattle.std.specs.List.{flat_map}
use Rattle.sv_audit.specs.Access.{roles_meant}
use Rattle.sv_audit.proofs.roles.all_roles.Given as goal

abbrev pub invariant-loop-member : goal.invariant-loop-member
invariant-loop-member l = map (λ role. role.now) l.roles.items ≡ flat_map (λ member. roles_meant l.declared member.auth) (map (λ member. member.now) (take l.member-index l.members))
