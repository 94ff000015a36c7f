use Rattle.std.proofs.Common.{◌≡◌, ℕ, List, ◌++◌, map, ap, ap₂, sym, ◌∙◌}
use Rattle.std.proofs.lemmas.List.Folds.{list_all-map}
use Rattle.std.specs.Borrow.{Bor}
use Rattle.std.specs.List.{list_all, list_any}
use Rattle.std.specs.Str.{bytes_eq}
use Rattle.sv_constraints.specs.Covering.{lists}
use Rattle.sv_constraints.specs.declared.constraint.Constraint.{Constraint}
use Rattle.sv_audit.specs.Access.{roles_meant}
use Rattle.sv_policy.proofs.Listed.{any_seen}
use Rattle.sv_policy.proofs.Steps.{any_of_joined}
use Rattle.sv_overruled.specs.Overruled.{all_meant}
use Rattle.sv_overruled.proofs.OverruledSteps.{all_same, these}
use Rattle.sv_overruled.proofs.alike.mean_its_roles.Goals as goal

abbrev texts : List (Bor (List ℕ)) → List (List ℕ)
texts names = map (λ (name : Bor (List ℕ)). name.now) names

-- One of the constraints means a role exactly if it is among the roles that all of them mean.
meant_by_one : (declared : List (List ℕ)) (others : List (Bor Constraint)) (role : List ℕ)
    → list_any (λ (other : Bor Constraint). lists (roles_meant declared other.now.auth) role) others ≡ lists (all_meant declared (these others)) role
meant_by_one declared others role =
    sym (any_seen (λ (other : Constraint). lists (roles_meant declared other.auth) role) (λ (other : Bor Constraint). other.now) others)
    ∙ sym (any_of_joined (λ listed. bytes_eq listed role) (λ (other : Constraint). roles_meant declared other.auth) (these others))

pub returns : goal.returns
returns c =
    c.all_meant.ensures
    ∙ ap (λ (roles : List (Bor (List ℕ))). list_all (λ (role : Bor (List ℕ)). list_any (λ (other : Bor Constraint). lists (roles_meant c.args.declared.now other.now.auth) role.now) c.args.others.now) roles) c.as_slice.ensures.value
    ∙ sym (list_all-map (λ role. list_any (λ (other : Bor Constraint). lists (roles_meant c.args.declared.now other.now.auth) role) c.args.others.now) (λ (role : Bor (List ℕ)). role.now) c.push_meant.new.roles.items)
    ∙ all_same (λ role. list_any (λ (other : Bor Constraint). lists (roles_meant c.args.declared.now other.now.auth) role) c.args.others.now) (lists (all_meant c.args.declared.now (these c.args.others.now))) (meant_by_one c.args.declared.now c.args.others.now) (texts c.push_meant.new.roles.items)
    ∙ ap (list_all (lists (all_meant c.args.declared.now (these c.args.others.now)))) (c.in_ok-push_meant.ensures ∙ ap (λ front. texts front ++ roles_meant c.args.declared.now c.args.constraint.now.auth) c.new-roles.ensures.items)
