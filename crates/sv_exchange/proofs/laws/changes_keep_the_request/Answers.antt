use Rattle.sv_exchange.proofs.Keeping.{changes_keep}
use Rattle.sv_exchange.proofs.laws.changes_keep_the_request.Goals as goal

pub returns : goal.returns
returns c before after changing = changes_keep before after changing
