use Rattle.std.proofs.Common.{ℕ, List, ap, ap₂, sym, ◌∙◌}
use Rattle.std.specs.List.{list_any}
use Rattle.std.specs.Str.{bytes_eq}
use Rattle.sv_constraints.specs.Covering.{lists}
use Rattle.sv_constraints.specs.Roles.{roles_named}
use Rattle.sv_policy.proofs.Steps.{any_of_joined}
use Rattle.sv_audit.specs.Access.{roles_meant}
use Rattle.sv_overruled.proofs.meant_roles.means.Goals as goal

pub returns-in-Roles : goal.returns-in-Roles
returns-in-Roles c =
    c.any_means.ensures
    ∙ ap (λ (names : List (List ℕ)). list_any (λ name. lists (roles_named c.args.declared.now name) c.args.role.now) names) c.as_slice.ensures
    ∙ sym (any_of_joined (λ listed. bytes_eq listed c.args.role.now) (roles_named c.args.declared.now) c.in-Roles.names)
    ∙ ap (λ auth. lists (roles_meant c.args.declared.now auth) c.args.role.now) (sym c.in-Roles.is)
