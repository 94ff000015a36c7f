use Rattle.std.proofs.Common.{ap, ◌∙◌}
use Rattle.sv_policy.specs.declared.table.Table.{Table}
use Rattle.sv_policy.proofs.Filing.{filed_next}
use Rattle.sv_policy.proofs.gaps.filed.Goals as goal

pub loop-table-preserved : goal.loop-table-preserved
loop-table-preserved c =
    filed_next (λ table. table.value) c.args.tables.now c.loop-table.table-index c.table-item.result c.loop-table.filed.entries c.insert.new.self.entries c.text.result c.deref-in-loop-table.result
    c.loop-table-test.true c.table-item.is c.loop-table.invariant (c.text.ensures.value ∙ ap (λ (table : Table). table.pattern) c.deref.ensures) c.deref-in-loop-table.ensures c.in_ok-insert.ensures.entries
