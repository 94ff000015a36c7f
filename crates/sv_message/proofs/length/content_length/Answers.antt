use Rattle.std.proofs.Common.{codes, sym, ap, ◌∙◌}
use Rattle.sv_message.specs.Fields.{parts_by_name}
use Rattle.sv_message.proofs.PartsLemmas.{length_seen, length_is_seen}
use Rattle.sv_message.proofs.length.content_length.Goals as goal

pub returns-in-Same : goal.returns-in-Same
returns-in-Same c =
    ap length_seen (sym c.in-Same.is ∙ c.see_fields.ensures) ∙ length_is_seen (parts_by_name (codes "content-length") c.args.fields.now)

pub returns-in-Nothing : goal.returns-in-Nothing
returns-in-Nothing c =
    ap length_seen (sym c.in-Nothing.is ∙ c.see_fields.ensures) ∙ length_is_seen (parts_by_name (codes "content-length") c.args.fields.now)

pub returns-in-Bad : goal.returns-in-Bad
returns-in-Bad c =
    ap length_seen (sym c.in-Bad.is ∙ c.see_fields.ensures) ∙ length_is_seen (parts_by_name (codes "content-length") c.args.fields.now)
