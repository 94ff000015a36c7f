use Rattle.sv_readiness.proofs.SlewingLemmas.{keeps_pace}
use Rattle.sv_readiness.proofs.laws.time_keeps_pace.Goals as goal

pub returns : goal.returns
returns c = keeps_pace
