use Rattle.std.proofs.Common.{ap₂, map, sym, ◌∙◌}
use Rattle.sv_policy.proofs.Alike.{table_alike}
use Rattle.sv_policy.specs.Likeness.{are_alike}
use Rattle.sv_policy.proofs.tables.table_like.Goals as goal

pub returns-then-are_alike-clause-table : goal.returns-then-are_alike-clause-table
returns-then-are_alike-clause-table c = λ constraints are are_others whole.
    table_alike c.args.rules.now constraints (map (λ member. member.now) c.args.members.now) (map (λ member. member.now) c.args.others.now) c.args.pattern.now c.args.other.now c.in_ok-table.table
    are are_others
    (ap₂ (λ text other. are_alike (map (λ member. member.now) c.args.members.now) (map (λ member. member.now) c.args.others.now) text other) (sym c.text.ensures.value) (sym c.text-2.ensures.value) ∙ sym c.are_alike.ensures ∙ c.if-are_alike.true)
    c.in_ok-table.ensures.entries (c.in_ok-table.ensures.pattern ∙ c.in_ok-copied.ensures) whole
