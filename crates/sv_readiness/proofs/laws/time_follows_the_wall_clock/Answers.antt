use Rattle.sv_readiness.proofs.SlewingLemmas.{follows}
use Rattle.sv_readiness.proofs.laws.time_follows_the_wall_clock.Goals as goal

pub returns : goal.returns
returns c = follows
