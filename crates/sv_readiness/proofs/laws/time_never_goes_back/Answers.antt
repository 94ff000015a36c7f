use Rattle.sv_readiness.proofs.SlewingLemmas.{never_back}
use Rattle.sv_readiness.proofs.laws.time_never_goes_back.Goals as goal

pub returns : goal.returns
returns c = never_back
