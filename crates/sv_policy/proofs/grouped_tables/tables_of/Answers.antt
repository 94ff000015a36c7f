use Rattle.std.proofs.Common.{ap, filter, map, subst, sym, ◌∙◌, ◌++◌}
use Rattle.std.specs.Prelude.{All}
use Rattle.std.proofs.lemmas.List.Elements.{All-map}
use Rattle.sv_constraints.specs.Covering.{all_patterns, lists}
use Rattle.sv_policy.specs.Table.{IsTable}
use Rattle.sv_policy.proofs.Grouping.{group_listed, texts_of_groups}
use Rattle.sv_policy.proofs.Whole.{all_none}
use Rattle.sv_policy.proofs.grouped_tables.tables_of.Goals as goal

pub returns : goal.returns
returns c = record {
  whole = All-map (IsTable c.args.rules.now c.args.constraints.now) (λ table. table.value) c.push_groups.new.making.tables.items
      (c.in_ok-push_groups.ensures.tables c.args.constraints.now c.in_ok-groups.ensures
      (subst (All (λ table. IsTable c.args.rules.now c.args.constraints.now table.value)) (sym (ap (λ made. made.items) c.in_ok-making.ensures ∙ c.in_ok-tables.ensures.items)) (all_none (λ table. IsTable c.args.rules.now c.args.constraints.now table.value))));
  texts = texts_of_groups (λ table. table.value) c.args.constraints.now c.push_groups.new.making.tables.items (map (λ pattern. pattern.now) c.in_ok-groups.groups.patterns.items)
      (c.in_ok-push_groups.ensures.texts c.args.constraints.now c.in_ok-groups.ensures
      ∙ ap (λ tables. map (λ table. table.value.pattern) tables ++ filter (λ text. lists (all_patterns c.args.constraints.now) text) (map (λ pattern. pattern.now) c.in_ok-groups.groups.patterns.items)) (ap (λ made. made.items) c.in_ok-making.ensures ∙ c.in_ok-tables.ensures.items))
      (group_listed c.args.constraints.now c.in_ok-groups.groups c.in_ok-groups.ensures);
}
