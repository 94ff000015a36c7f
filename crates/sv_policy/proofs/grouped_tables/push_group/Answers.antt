use Rattle.std.proofs.Common.{ap, filter, map, not, refl, sym, ◌∙◌}
use Rattle.sv_constraints.specs.Covering.{all_patterns, lists}
use Rattle.sv_policy.specs.Table.{IsTable}
use Rattle.sv_policy.proofs.Grouping.{no_members}
use Rattle.sv_policy.proofs.Listed.{listed_members}
use Rattle.sv_policy.proofs.Made.{all_made}
use Rattle.sv_policy.proofs.Whole.{nothing_pushed, text_made}
use Rattle.sv_policy.specs.Patterns.{lists_pattern}
use Rattle.sv_policy.proofs.grouped_tables.push_group.Goals as goal

pub returns-in_default-clause-texts : goal.returns-in_default-clause-texts
returns-in_default-clause-texts c = λ constraints are.
    nothing_pushed (map (λ table. table.value.pattern) c.args.making.now.tables.items) c.args.pattern.now (lists (all_patterns constraints) c.args.pattern.now)
    (no_members constraints c.text.result.now c.args.pattern.now (c.in_default.ensures constraints are) c.text.ensures.value)

pub returns-then-is_empty-clause-texts : goal.returns-then-is_empty-clause-texts
returns-then-is_empty-clause-texts c = λ constraints are.
    nothing_pushed (map (λ table. table.value.pattern) c.args.making.now.tables.items) c.args.pattern.now (lists (all_patterns constraints) c.args.pattern.now)
    (ap not (sym c.if-is_empty.true ∙ c.is_empty.ensures) ∙ listed_members constraints c.args.pattern.now c.args.pattern.now c.as_slice-members.result.now (ap (map (λ member. member.now)) c.as_slice-members.ensures.value ∙ c.in-Some.ensures constraints are ∙ ap (λ text. filter (λ constraint. lists_pattern constraint text) constraints) c.text.ensures.value) refl)

pub returns-clause-texts : goal.returns-clause-texts
returns-clause-texts c = λ constraints are.
    text_made (λ table. table.value) c.args.making.now.tables.items c.push.new.self.tables.items c.in_ok-table.table c.args.pattern.now (lists (all_patterns constraints) c.args.pattern.now)
    c.in_ok-push.ensures c.in_ok-table.ensures.pattern
    (ap not (sym c.if-is_empty.false ∙ c.is_empty.ensures) ∙ listed_members constraints c.args.pattern.now c.args.pattern.now c.as_slice-members.result.now (ap (map (λ member. member.now)) c.as_slice-members.ensures.value ∙ c.in-Some.ensures constraints are ∙ ap (λ text. filter (λ constraint. lists_pattern constraint text) constraints) c.text.ensures.value) refl)

pub returns-clause-tables : goal.returns-clause-tables
returns-clause-tables c = λ constraints are all.
    all_made (IsTable c.args.rules.now constraints) (λ table. table.value) c.args.making.now.tables.items c.push.new.self.tables.items c.in_ok-table.table
    c.in_ok-push.ensures
    (c.in_ok-table.ensures.table constraints are (ap (map (λ member. member.now)) c.as_slice-members.ensures.value ∙ c.in-Some.ensures constraints are ∙ ap (λ text. filter (λ constraint. lists_pattern constraint text) constraints) c.text.ensures.value) all)
    all
