use Rattle.sv_headline.proofs.runs.sessions_change_by_calls.Goals as goal

pub returns : goal.returns
returns g c = c.sessions_change_by_calls.ensures c.sessions_of_contexts_change_by_calls.ensures
