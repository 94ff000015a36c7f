use Rattle.sv_exchange.proofs.Moving.{changes_move}
use Rattle.sv_exchange.proofs.laws.changes_move_the_sessions.Goals as goal

pub returns : goal.returns
returns c before after changing = changes_move c.components_keep_the_sessions.ensures.joins before after changing
