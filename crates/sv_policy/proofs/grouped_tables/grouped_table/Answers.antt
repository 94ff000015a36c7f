use Rattle.std.proofs.Common.{ap, filter, map, ◌∙◌}
use Rattle.sv_policy.specs.Patterns.{lists_pattern}
use Rattle.sv_policy.proofs.grouped_tables.grouped_table.Goals as goal

pub returns-in-Some-on-clause-table : goal.returns-in-Some-on-clause-table
returns-in-Some-on-clause-table c = λ constraints are members all.
    c.table_like.ensures.table constraints members
    (ap (map (λ member. member.now)) c.as_slice.ensures.value ∙ c.in-Some-on.ensures constraints are ∙ ap (λ text. filter (λ constraint. lists_pattern constraint text) constraints) c.text-2.ensures.value)
    (c.in-Some.ensures c.args.rules.now constraints all)
