use Rattle.std.proofs.Common.{◌∙◌, sym}
use Rattle.sv_descriptor.proofs.Lists.{list_any-map}
use Rattle.sv_descriptor.proofs.table.is_among.Goals as goal

pub returns : goal.returns
returns c = c.contains.ensures.value ∙ sym (list_any-map _ _ c.args.texts.now)
