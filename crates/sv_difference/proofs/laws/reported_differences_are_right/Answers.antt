use Rattle.sv_difference.proofs.ServerLemmas.{logins_change, reported_right}
use Rattle.sv_difference.proofs.laws.reported_differences_are_right.Goals as goal

pub returns-clause-differences : goal.returns-clause-differences
returns-clause-differences c = reported_right c.differences_are_right.ensures

pub returns-clause-logins : goal.returns-clause-logins
returns-clause-logins c = logins_change
