use Rattle.std.proofs.Common.{ap, filter, map, ◌∙◌, ◌++◌}
use Rattle.std.proofs.lemmas.List.{take_all}
use Rattle.sv_constraints.specs.Covering.{all_patterns, lists}
use Rattle.sv_policy.proofs.Whole.{texts_more}
use Rattle.sv_policy.proofs.grouped_tables.push_groups.Goals as goal

pub loop-pattern-preserved : goal.loop-pattern-preserved
loop-pattern-preserved c = λ constraints are. (
  texts_more (λ text. lists (all_patterns constraints) text) c.as_slice-pattern-items.result.now c.loop-pattern.pattern-index c.pattern-item.result
      (map (λ table. table.value.pattern) c.args.making.now.tables.items) (map (λ table. table.value.pattern) c.loop-pattern.making.tables.items) (map (λ table. table.value.pattern) c.push_group.new.making.tables.items)
      c.loop-pattern-test.true c.pattern-item.is (c.loop-pattern.invariant constraints are).0 (c.in_ok-push_group.ensures.texts constraints are),
  (λ all. c.in_ok-push_group.ensures.tables constraints are ((c.loop-pattern.invariant constraints are).1 all)),
)

pub returns-clause-texts : goal.returns-clause-texts
returns-clause-texts c = λ constraints are.
    (c.loop-pattern.invariant constraints are).0
    ∙ ap (λ patterns. map (λ table. table.value.pattern) c.args.making.now.tables.items ++ filter (λ text. lists (all_patterns constraints) text) (map (λ pattern. pattern.now) patterns))
    (take_all c.loop-pattern.pattern-index c.as_slice-pattern-items.result.now c.loop-pattern-test.false ∙ c.as_slice-pattern-items.ensures.value)

pub returns-clause-tables : goal.returns-clause-tables
returns-clause-tables c = λ constraints are all. (c.loop-pattern.invariant constraints are).1 all
