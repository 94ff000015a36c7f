use Rattle.std.proofs.Common.{ap, filter, map, not, sym, ◌∙◌, ◌++◌}
use Rattle.sv_constraints.specs.Covering.{all_patterns, lists}
use Rattle.sv_policy.specs.Table.{IsTable}
use Rattle.sv_policy.proofs.Listed.{listed_members}
use Rattle.sv_policy.proofs.Made.{all_made}
use Rattle.sv_policy.proofs.Whole.{nothing_pushed, text_made}
use Rattle.sv_policy.specs.Patterns.{lists_pattern}
use Rattle.sv_policy.proofs.listed_tables.push_table.Goals as goal

pub returns-then-is_empty-clause-texts : goal.returns-then-is_empty-clause-texts
returns-then-is_empty-clause-texts c =
    nothing_pushed (map (λ table. table.value.pattern) c.args.making.now.tables.items) c.args.pattern.now (lists (all_patterns (c.args.front.now ++ c.args.back.now)) c.args.pattern.now)
    (ap not (sym c.if-is_empty.true ∙ c.is_empty.ensures)
    ∙ listed_members (c.args.front.now ++ c.args.back.now) c.text.result.now c.args.pattern.now c.as_slice-members.result.now (ap (map (λ member. member.now)) c.as_slice-members.ensures.value ∙ c.in_ok-members.ensures) c.text.ensures.value)

pub returns-clause-texts : goal.returns-clause-texts
returns-clause-texts c =
    text_made (λ table. table.value) c.args.making.now.tables.items c.push.new.self.tables.items c.in_ok-table.table c.args.pattern.now (lists (all_patterns (c.args.front.now ++ c.args.back.now)) c.args.pattern.now)
    c.in_ok-push.ensures c.in_ok-table.ensures.pattern
    (ap not (sym c.if-is_empty.false ∙ c.is_empty.ensures)
    ∙ listed_members (c.args.front.now ++ c.args.back.now) c.text.result.now c.args.pattern.now c.as_slice-members.result.now (ap (map (λ member. member.now)) c.as_slice-members.ensures.value ∙ c.in_ok-members.ensures) c.text.ensures.value)

pub returns-clause-tables : goal.returns-clause-tables
returns-clause-tables c = λ all.
    all_made (IsTable c.args.rules.now (c.args.front.now ++ c.args.back.now)) (λ table. table.value) c.args.making.now.tables.items c.push.new.self.tables.items c.in_ok-table.table
    c.in_ok-push.ensures
    (c.in_ok-table.ensures.table
    (ap (map (λ member. member.now)) c.as_slice-members.ensures.value ∙ c.in_ok-members.ensures ∙ ap (λ text. filter (λ constraint. lists_pattern constraint text) (c.args.front.now ++ c.args.back.now)) c.text.ensures.value)
    all)
    all
