use Rattle.std.proofs.Common.{◌==◌, ◌∙◌, ap, map, rules}
use borrow.Author.Tests.{tests}
use Rattle.std.proofs.lemmas.Iterator.{items_from_drains}
use Rattle.std.proofs.lemmas.Iterator.Splits.{YieldsList-from_slice_split}
use Rattle.sv_application.proofs.cookies.pieces.Goals as goal

pub returns : goal.returns
returns c =
    let ran = c.in_ok-collect.ensures.ran in
    ap (map (λ piece. piece.now)) ran.2.0
    ∙ items_from_drains ran.0 ran.1
    (YieldsList-from_slice_split _ (λ b. b == 59) c.args.value.now c.split.ensures.rest c.split.ensures.done
    c.split.ensures.closure (λ x b q k. search (rules, tests)))
