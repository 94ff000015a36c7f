use Rattle.std.proofs.Common.{◌≡◌, IfOk, ap, ap₂, subst, sym, remove, ◌∙◌, ◌++◌}
use Rattle.sv_constraints.specs.declared.constraint.Constraint.{Constraint}
use Rattle.sv_policy.proofs.Elsewhere.{at_any, same_without}
use Rattle.sv_policy.specs.Patterns.{listed_in}
use Rattle.sv_policy.specs.Rebuilt.{AreSameElsewhere, IsRebuilt}
use Rattle.sv_policy.proofs.rebuild.rebuilt_without.Goals as goal

pub returns : goal.returns
returns c = λ withdrawn at.
    let rest : c.before-front.result.now ++ c.behind-back.result.now ≡ remove c.args.constraints.now c.args.place = ap₂ (λ front back. front ++ back) c.before-front.ensures c.behind-back.ensures in
    let edited : c.as_slice-edited.result.now ≡ withdrawn.collections =
    c.as_slice-edited.ensures ∙ ap (λ (constraint : Constraint). constraint.collections) (at_any c.args.constraints.now c.args.place c.index-constraints-place.result withdrawn c.requires.within ∙ sym at) in
    subst (λ constraints. IfOk c.rebuilt_around.result (IsRebuilt c.args.rules.now constraints withdrawn.collections)) rest
    (subst (λ collections. IfOk c.rebuilt_around.result (IsRebuilt c.args.rules.now (c.before-front.result.now ++ c.behind-back.result.now) collections)) edited
    (c.rebuilt_around.ensures c.args.constraints.now c.requires.compiled
    (subst (λ constraints. AreSameElsewhere c.args.constraints.now constraints (listed_in c.as_slice-edited.result.now)) (sym rest)
    (subst (λ collections. AreSameElsewhere c.args.constraints.now (remove c.args.constraints.now c.args.place) (listed_in collections)) (sym edited)
    (same_without c.args.constraints.now c.args.place withdrawn c.requires.within at)))))
