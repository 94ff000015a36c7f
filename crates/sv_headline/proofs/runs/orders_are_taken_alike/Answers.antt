use Rattle.sv_headline.proofs.runs.orders_are_taken_alike.Goals as goal

pub returns : goal.returns
returns g c = c.orders_are_taken_alike.ensures c.contexts_end_expired_sessions.ensures
