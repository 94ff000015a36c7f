use Rattle.sv_explanation.proofs.LongHeads.{short_head_is_whole}
use Rattle.sv_explanation.proofs.UnreadLemmas.{is_short}
use Rattle.sv_explanation.proofs.laws.other_heads_end.Goals as goal

pub returns : goal.returns
returns c contexts head other is = short_head_is_whole head (is_short contexts head.method head.target other) is
