use Rattle.std.proofs.Common.{◌++◌, map}
use Rattle.sv_constraints.specs.Covering.{all_patterns, lists}
use Rattle.sv_policy.proofs.Whole.{texts_more}
use Rattle.sv_policy.proofs.listed_tables.push_tables.Goals as goal

pub loop-pattern-preserved : goal.loop-pattern-preserved
loop-pattern-preserved c = (
  texts_more (λ text. lists (all_patterns (c.args.front.now ++ c.args.back.now)) text) c.args.patterns.now c.loop-pattern.pattern-index c.pattern-item.result
      (map (λ table. table.value.pattern) c.args.making.now.tables.items) (map (λ table. table.value.pattern) c.loop-pattern.making.tables.items) (map (λ table. table.value.pattern) c.push_table.new.making.tables.items)
      c.loop-pattern-test.true c.pattern-item.is c.loop-pattern.invariant.0 c.in_ok-push_table.ensures.texts,
  (λ all. c.in_ok-push_table.ensures.tables (c.loop-pattern.invariant.1 all)),
)
