use Rattle.std.proofs.Common.{arith, ◌∙◌, ap, map}
use Rattle.std.proofs.lemmas.Iterator.{items_from_drains}
use Rattle.std.proofs.lemmas.Iterator.Splits.{YieldsList-from_str_split}
use Rattle.sv_audited_contexts.proofs.line_file.parts.Goals as goal

pub returns : goal.returns
returns c =
    let ran = c.in_ok-collect.ensures.ran in
    ap (map (λ part. part.now)) ran.2.0
    ∙ items_from_drains ran.0 ran.1 (YieldsList-from_str_split 10 c.args.text.now (omega arith) c.split.ensures.text c.split.ensures.has_more c.split.ensures.pattern)
