use Rattle.std.proofs.Common.{IfOk, subst, sym, ◌++◌}
use Rattle.sv_policy.proofs.Elsewhere.{same_with}
use Rattle.sv_policy.specs.Patterns.{listed_in}
use Rattle.sv_policy.specs.Rebuilt.{AreSameElsewhere, IsRebuilt}
use Rattle.sv_policy.proofs.rebuild.rebuilt_with.Goals as goal

pub returns : goal.returns
returns c =
    subst (λ back. IfOk c.rebuilt_around.result (IsRebuilt c.args.rules.now (c.args.constraints.now ++ back) c.args.added.now.collections)) c.from_ref.ensures.value
    (subst (λ edited. IfOk c.rebuilt_around.result (IsRebuilt c.args.rules.now (c.args.constraints.now ++ c.from_ref.result.now) edited)) c.as_slice-edited.ensures
    (c.rebuilt_around.ensures c.args.constraints.now c.requires
    (subst (λ edited. AreSameElsewhere c.args.constraints.now (c.args.constraints.now ++ c.from_ref.result.now) (listed_in edited)) (sym c.as_slice-edited.ensures)
    (subst (λ back. AreSameElsewhere c.args.constraints.now (c.args.constraints.now ++ back) (listed_in c.args.added.now.collections)) (sym c.from_ref.ensures.value)
    (same_with c.args.constraints.now c.args.added.now)))))
