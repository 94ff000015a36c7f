use Rattle.sv_exchange.proofs.Reaching.{reaches_to, reaches_from}
use Rattle.sv_exchange.proofs.laws.changes_are_calls.Goals as goal

pub returns : goal.returns
returns c before after = (reaches_to before after, reaches_from before after)
