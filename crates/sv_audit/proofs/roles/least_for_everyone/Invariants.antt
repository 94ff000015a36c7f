use Rattle.std.proofs.Common.{◌≡◌, map, take}
use Rattle.sv_constraints.specs.Verdict.{least_where}
use Rattle.sv_policy.specs.Merged.{admits_everyone}
use Rattle.sv_audit.proofs.roles.least_for_everyone.Given as goal

abbrev pub invariant-loop-member : goal.invariant-loop-member
invariant-loop-member l = l.least ≡ least_where admits_everyone (map (λ member. member.now) (take l.member-index l.members))
