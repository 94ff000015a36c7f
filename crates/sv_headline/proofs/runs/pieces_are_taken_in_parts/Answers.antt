use Rattle.sv_headline.proofs.runs.pieces_are_taken_in_parts.Goals as goal

pub returns : goal.returns
returns g c = c.pieces_are_taken_in_parts.ensures c.contexts_end_expired_sessions.ensures
