use Rattle.sv_explanation.proofs.OutcomeLemmas.{outcomes}
use Rattle.sv_explanation.proofs.laws.outcomes_are_the_servers.Goals as goal

pub returns : goal.returns
returns c context method canon content_type body = outcomes context method canon
