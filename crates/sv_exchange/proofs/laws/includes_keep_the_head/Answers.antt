use Rattle.sv_exchange.proofs.Including.{changes_keep_head}
use Rattle.sv_exchange.proofs.laws.includes_keep_the_head.Goals as goal

pub returns : goal.returns
returns c before after changing within = changes_keep_head before after changing within
