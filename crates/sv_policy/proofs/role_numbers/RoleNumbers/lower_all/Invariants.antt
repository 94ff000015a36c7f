use Rattle.std.proofs.Common.{◌≡◌, ℕ, List, take}
use Rattle.std.specs.Bool.{then_some}
use Rattle.sv_constraints.specs.Covering.{lists}
use Rattle.sv_constraints.specs.Findings.{lesser}
use Rattle.sv_policy.specs.Merged.{number_of}
use Rattle.sv_policy.proofs.role_numbers.RoleNumbers.lower_all.Given as goal

abbrev pub invariant-loop-role : goal.invariant-loop-role
invariant-loop-role l =
    (role : List ℕ) → number_of l.self role ≡ lesser (number_of l.fn.self role) (then_some (lists (take l.role-index l.roles) role) l.number)
