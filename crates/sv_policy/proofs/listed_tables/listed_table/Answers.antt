use Rattle.std.proofs.Common.{ap, filter, map, ◌∙◌, ◌++◌}
use Rattle.sv_policy.specs.Patterns.{lists_pattern}
use Rattle.sv_policy.proofs.listed_tables.listed_table.Goals as goal

pub returns-in_ok-others-in-Some-clause-table : goal.returns-in_ok-others-in-Some-clause-table
returns-in_ok-others-in-Some-clause-table c = λ members all.
    c.table_like.ensures.table (c.args.front.now ++ c.args.back.now) members
    (ap (map (λ member. member.now)) c.as_slice.ensures.value ∙ c.in_ok-others-in-Some.ensures ∙ ap (λ text. filter (λ constraint. lists_pattern constraint text) (c.args.front.now ++ c.args.back.now)) c.text-in-Some.ensures.value)
    (c.in-Some.ensures c.args.rules.now (c.args.front.now ++ c.args.back.now) all)
