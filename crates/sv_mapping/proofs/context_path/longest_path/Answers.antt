use Rattle.sv_mapping.proofs.Choice.{longest_more}
use Rattle.sv_mapping.proofs.context_path.longest_path.Goals as goal
use Rattle.sv_mapping.proofs.context_path.longest_path.Goals.{then-is_longer, else-is_longer}

pub loop-context-preserved : goal.loop-context-preserved
loop-context-preserved g c =
    let next = longest_more g.C.HasContextPath.path_of c.args.contexts.now c.args.path.now c.loop-context.context-index c.context-item.result c.loop-context.longest c.is_longer.result c.loop-context-test.true c.context-item.is c.is_longer.ensures c.loop-context.invariant in
    elim c.if-is_longer.branch [
      | then-is_longer w ↦ rw (w.longest-is, w.context_path-longest.ensures) (rw w.if-is_longer.true at next)
      | else-is_longer w ↦ rw w.longest-is (rw w.if-is_longer.false at next)
    ]
