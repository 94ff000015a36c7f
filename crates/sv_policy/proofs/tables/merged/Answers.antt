use Rattle.std.proofs.Common.{map, sym, ◌∙◌}
use Rattle.sv_policy.proofs.Whole.{table_of_all}
use Rattle.sv_policy.proofs.tables.merged.Goals as goal

pub returns-clause-table : goal.returns-clause-table
returns-clause-table c = λ constraints are.
    table_of_all c.args.rules.now constraints (map (λ member. member.now) c.args.members.now) c.in_ok-table.table c.args.pattern.now are (sym c.in_ok-copied.ensures ∙ sym c.in_ok-table.ensures.pattern) c.in_ok-table.ensures.table
