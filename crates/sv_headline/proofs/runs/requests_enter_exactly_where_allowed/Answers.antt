use Rattle.sv_headline.proofs.runs.requests_enter_exactly_where_allowed.Goals as goal

pub returns : goal.returns
returns g c = c.requests_enter_exactly_where_allowed.ensures c.contexts_tell_outcomes.ensures
