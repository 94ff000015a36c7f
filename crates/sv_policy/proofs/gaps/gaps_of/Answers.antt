use Rattle.std.proofs.Common.{map}
use Rattle.sv_constraints.specs.Covering.{all_patterns}
use Rattle.sv_policy.specs.Table.{IsTable}
use Rattle.sv_policy.specs.Uncovered.{has_methods}
use Rattle.sv_policy.proofs.Gapped.{among_at, gaps_all, gaps_more, whole_among}
use Rattle.sv_policy.specs.Gaps.{gap_at}
use Rattle.sv_policy.proofs.gaps.gaps_of.Goals as goal

pub loop-table-preserved : goal.loop-table-preserved
loop-table-preserved c = λ rules constraints are.
    gaps_more (λ gap. has_methods gap.methods) (gap_at constraints) c.as_slice-table-items.result.now c.loop-table.table-index c.table-item.result c.loop-table.found.items c.push_gap.new.found.items
    c.loop-table-test.true c.table-item.is (c.loop-table.invariant rules constraints are)
    (c.in_ok-push_gap.ensures rules constraints
    (whole_among (IsTable rules constraints) (map (λ table. table.value) c.args.tables.now) c.table-item.result.now are.whole
    (among_at (map (λ table. table.value) c.args.tables.now) c.in_ok-rising_tables.field-0.items c.as_slice-table-items.result.now c.loop-table.table-index c.table-item.result
    c.as_slice-table-items.ensures.value c.loop-table-test.true c.table-item.is c.in_ok-rising_tables.ensures.tables)))

pub returns : goal.returns
returns c = λ rules constraints are.
    gaps_all c.rising_is_in_order.ensures.rises c.rising_is_in_order.ensures.texts c.rising_is_in_order.ensures.alone (λ gap. has_methods gap.methods) (gap_at constraints) c.as_slice-table-items.result.now c.in_ok-rising_tables.field-0.items c.loop-table.table-index c.loop-table.found.items
    (map (λ table. table.pattern) (map (λ table. table.value) c.args.tables.now)) (all_patterns constraints)
    c.loop-table-test.false c.as_slice-table-items.ensures.value (c.loop-table.invariant rules constraints are) c.in_ok-rising_tables.ensures.texts are.texts
