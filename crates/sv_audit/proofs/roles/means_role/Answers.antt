use Rattle.std.proofs.Common.{ℕ, List, ap, ap₂, length, not, sym, ◌==◌, ◌∙◌}
use Rattle.std.specs.List.{list_any}
use Rattle.sv_constraints.specs.Roles.{roles_named}
use Rattle.sv_audit.proofs.FittingLemmas.{some_joined}
use Rattle.sv_audit.specs.Access.{roles_meant}
use Rattle.sv_audit.proofs.roles.means_role.Goals as goal

pub returns-in-Roles : goal.returns-in-Roles
returns-in-Roles c =
    c.mean_role.ensures
    ∙ ap₂ (λ (declared names : List (List ℕ)). list_any (λ name. not (length (roles_named declared name) == 0)) names) c.as_slice.ensures c.as_slice-in-Roles.ensures
    ∙ sym (some_joined (roles_named c.args.rules.now.declared) c.in-Roles.names)
    ∙ ap (λ auth. not (length (roles_meant c.args.rules.now.declared auth) == 0)) (sym c.in-Roles.is)
