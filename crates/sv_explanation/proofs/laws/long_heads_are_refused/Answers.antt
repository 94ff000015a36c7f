use Rattle.std.proofs.Common.{◌++◌, subst}
use Rattle.httparse.specs.Grammar.{print_request}
use Rattle.sv_wire.specs.Reads.{StartsAt}
use Rattle.sv_explanation.proofs.LongHeads.{long_head_is_endless}
use Rattle.sv_explanation.proofs.UnreadLemmas.{is_long}
use Rattle.sv_explanation.proofs.laws.long_heads_are_refused.Goals as goal

pub returns : goal.returns
returns c contexts head rest start explained is none starts =
    let text = print_request head ++ rest in
    let too_long = is_long contexts head.method head.target explained in
    subst (λ cut. StartsAt cut text start) (long_head_is_endless head rest too_long is none) starts
