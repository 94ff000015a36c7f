use Rattle.std.proofs.Common.{ap, map, not, ◌∙◌}
use Rattle.sv_policy.specs.declared.table.Table.{Table}
use Rattle.sv_policy.proofs.Elsewhere.{among_texts, is_other, others_kept, others_left}
use Rattle.sv_policy.proofs.rebuild.others.Goals as goal
use Rattle.sv_policy.proofs.rebuild.others.Goals.{then-not-is_among+in_ok-clone+in_ok-push, else-not-is_among}

pub loop-table-preserved : goal.loop-table-preserved
loop-table-preserved c =
    elim c.if-not-is_among.branch [
      | then-not-is_among+in_ok-clone+in_ok-push w ↦
          others_kept (is_other (map (λ pattern. pattern.now) c.args.patterns.now)) (λ table. table.value) c.args.tables.now c.loop-table.table-index c.table-item.result c.loop-table.kept.items c.if-not-is_among.kept.items w.in_ok-clone.field-0
          c.loop-table-test.true c.table-item.is c.loop-table.invariant
          (ap not (among_texts c.args.patterns.now c.text.result.now c.table-item.result.value.pattern c.is_among.result c.is_among.ensures (c.text.ensures.value ∙ ap (λ (table : Table). table.pattern) c.deref.ensures) ∙ w.if-not-is_among.true))
          w.in_ok-clone.ensures.cases (ap (λ kept. kept.items) w.kept-is ∙ w.in_ok-push.ensures.items)
      | else-not-is_among w ↦
          others_left (is_other (map (λ pattern. pattern.now) c.args.patterns.now)) (λ table. table.value) c.args.tables.now c.loop-table.table-index c.table-item.result c.loop-table.kept.items c.if-not-is_among.kept.items
          c.loop-table-test.true c.table-item.is c.loop-table.invariant
          (ap not (among_texts c.args.patterns.now c.text.result.now c.table-item.result.value.pattern c.is_among.result c.is_among.ensures (c.text.ensures.value ∙ ap (λ (table : Table). table.pattern) c.deref.ensures) ∙ w.if-not-is_among.false))
          (ap (λ kept. kept.items) w.kept-is)
    ]
