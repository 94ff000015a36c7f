use Rattle.std.proofs.Common.{arith, sym, ◌∙◌}
use Rattle.sv_mapping.proofs.Texts.{stripped_front, within_whole, within_rest, within_none}
use Rattle.sv_mapping.proofs.form.is_at_or_below.Goals as goal

pub returns-then-is_empty : goal.returns-then-is_empty
returns-then-is_empty c =
    c.if-is_empty.true ∙ sym (within_whole c.args.prefix.now c.args.path.now c.in-Some.rest.now (stripped_front c.args.prefix.now c.args.path.now c.in-Some.rest.now c.in-Some.ensures.cases) (sym c.is_empty.ensures ∙ c.if-is_empty.true))

pub returns-else-is_empty : goal.returns-else-is_empty
returns-else-is_empty c =
    c.starts_with.ensures.byte (omega arith) (omega arith) (λ w o h. h)
    ∙ sym (within_rest c.args.prefix.now c.args.path.now c.in-Some.rest.now (stripped_front c.args.prefix.now c.args.path.now c.in-Some.rest.now c.in-Some.ensures.cases) (sym c.is_empty.ensures ∙ c.if-is_empty.false))

pub returns-in-None : goal.returns-in-None
returns-in-None c = sym (within_none c.args.prefix.now c.args.path.now c.in-None.ensures.cases)
