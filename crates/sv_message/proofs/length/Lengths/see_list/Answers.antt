use Rattle.std.proofs.Common.{◌==◌, rules}
use borrow.Author.Tests.{tests}
use Rattle.std.proofs.lemmas.Iterator.Consumers.{fold_from_yields_List}
use Rattle.std.proofs.lemmas.Iterator.Splits.{YieldsList-from_slice_split}
use Rattle.sv_message.specs.Lengths.{length_with}
use Rattle.sv_message.proofs.length.Lengths.see_list.Goals as goal

pub returns : goal.returns
returns c =
    fold_from_yields_List _ length_with c.args.self _ c.fold.ensures.ran
    (YieldsList-from_slice_split _ (λ b. b == 44) c.args.value.now c.split.ensures.rest c.split.ensures.done
    c.split.ensures.closure (λ x b q k. search (rules, tests)))
    (λ a x b q k. search (rules, tests))
