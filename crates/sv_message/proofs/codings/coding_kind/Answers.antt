use Rattle.std.proofs.Common.{codes, sym, ap, ◌∙◌}
use Rattle.sv_message.specs.Fields.{parts_by_name}
use Rattle.sv_message.proofs.PartsLemmas.{kind_seen, kind_is_seen}
use Rattle.sv_message.proofs.codings.coding_kind.Goals as goal

pub returns-in-Chunked : goal.returns-in-Chunked
returns-in-Chunked c =
    ap kind_seen (sym c.in-Chunked.is ∙ c.see_fields.ensures) ∙ kind_is_seen (parts_by_name (codes "transfer-encoding") c.args.fields.now)

pub returns-in-OthersThenChunked : goal.returns-in-OthersThenChunked
returns-in-OthersThenChunked c =
    ap kind_seen (sym c.in-OthersThenChunked.is ∙ c.see_fields.ensures) ∙ kind_is_seen (parts_by_name (codes "transfer-encoding") c.args.fields.now)

pub returns-in-Nothing : goal.returns-in-Nothing
returns-in-Nothing c =
    ap kind_seen (sym c.in-Nothing.is ∙ c.see_fields.ensures) ∙ kind_is_seen (parts_by_name (codes "transfer-encoding") c.args.fields.now)

pub returns-in-Others : goal.returns-in-Others
returns-in-Others c =
    ap kind_seen (sym c.in-Others.is ∙ c.see_fields.ensures) ∙ kind_is_seen (parts_by_name (codes "transfer-encoding") c.args.fields.now)

pub returns-in-BehindChunked : goal.returns-in-BehindChunked
returns-in-BehindChunked c =
    ap kind_seen (sym c.in-BehindChunked.is ∙ c.see_fields.ensures) ∙ kind_is_seen (parts_by_name (codes "transfer-encoding") c.args.fields.now)
