use Rattle.sv_headline.proofs.runs.callers_stay_or_log_in.Goals as goal

pub returns : goal.returns
returns g c = c.callers_stay_or_log_in.ensures c.callers_come_by_login.ensures
