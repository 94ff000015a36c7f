use Rattle.sv_headline.proofs.runs.pieces_may_be_cut.Goals as goal

pub returns : goal.returns
returns g c = c.pieces_may_be_cut.ensures c.contexts_end_expired_sessions.ensures
