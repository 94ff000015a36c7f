use Rattle.std.proofs.Common.{◌≡◌, ℕ, List, take}
use Rattle.std.specs.Bool.{then_some}
use Rattle.std.specs.List.{list_any}
use Rattle.sv_constraints.specs.Covering.{lists}
use Rattle.sv_constraints.specs.Findings.{lesser}
use Rattle.sv_constraints.specs.Roles.{roles_named}
use Rattle.sv_policy.specs.Merged.{number_of}
use Rattle.sv_policy.proofs.role_numbers.RoleNumbers.name_read.Given as goal

abbrev pub invariant-loop-name : goal.invariant-loop-name
invariant-loop-name l =
    (role : List ℕ) → number_of l.self role ≡ lesser (number_of l.fn.self role) (then_some (list_any (λ name. lists (roles_named l.declared name) role) (take l.name-index l.names)) l.number)
