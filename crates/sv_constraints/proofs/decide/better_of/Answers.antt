use Rattle.std.proofs.Common.{◌++◌, take, ap, sym, ◌∙◌}
use Rattle.std.specs.List.{flat_map}
use Rattle.sv_mapping.specs.BestMatch.{best_pattern}
use Rattle.sv_constraints.proofs.Joined.{joined_more}
use Rattle.sv_constraints.proofs.decide.better_of.Goals as goal

pub loop-collection-preserved : goal.loop-collection-preserved
loop-collection-preserved c = λ before best.
    c.better-best.ensures.joined
    (before ++ flat_map (λ collection. collection.patterns) (take c.loop-collection.collection-index c.as_slice-collection-items.result.now))
    (sym (c.loop-collection.invariant before best))
    ∙ ap (λ patterns. best_pattern patterns c.args.path.now)
    (joined_more (λ collection. collection.patterns) before c.as_slice.result.now c.as_slice-collection-items.result.now c.loop-collection.collection-index c.collection-item.result c.loop-collection-test.true c.collection-item.is c.as_slice.ensures)
