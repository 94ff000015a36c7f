use Rattle.std.proofs.Common.{◌≡◌, ℕ, Bool, false, List, codes, sym, ◌∙◌}
use Rattle.std.specs.List.{list_any}
use Rattle.sv_constraints.proofs.Joined.{any_of_joined}
use Rattle.sv_constraints.specs.Covering.{lists}
use Rattle.sv_constraints.specs.Roles.{roles_named, admits_holder}
use Rattle.sv_constraints.proofs.roles.admits_holder.Goals as goal

-- A list that does not name every caller admits exactly the holders of a role that it means.
admits_by_role : (declared names held : List (List ℕ)) (fits : Bool) → lists names (codes "**") ≡ false → fits ≡ list_any (λ name. list_any (lists held) (roles_named declared name)) names → fits ≡ admits_holder declared names held
admits_by_role declared names held fits unnamed fitting =
    rw (unnamed, any_of_joined (lists held) (roles_named declared) names) fitting

pub returns-else-lists : goal.returns-else-lists
returns-else-lists c = admits_by_role c.args.declared.now c.args.names.now c.args.held.now _ (sym c.lists.ensures ∙ c.if-lists.false) c.names_fit.ensures
