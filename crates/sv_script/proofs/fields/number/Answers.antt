use Rattle.std.proofs.Common.{sym, ◌∙◌}
use Rattle.sv_script.proofs.FieldLemmas.{digits_are_utf8}
use Rattle.sv_script.proofs.fields.number.Goals as goal

pub returns-in-Err : goal.returns-in-Err
returns-in-Err c = absurd (c.in-Err.ensures.cases.0 (digits_are_utf8 c.args.text.now (sym c.has_digits_alone.ensures ∙ c.if-not-has_digits_alone.false)))
