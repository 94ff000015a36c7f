use Rattle.std.proofs.Common.{◌≡◌, take}
use Rattle.std.specs.List.{flat_map}
use Rattle.sv_audited_contexts.proofs.held.held_roles.Given as goal

abbrev pub invariant-loop-number : goal.invariant-loop-number
invariant-loop-number l = l.roles.items ≡ flat_map (λ user. user.roles) (take l.number l.realm)
