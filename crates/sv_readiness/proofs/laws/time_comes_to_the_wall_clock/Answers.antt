use Rattle.sv_readiness.proofs.SlewingLemmas.{comes_in_time}
use Rattle.sv_readiness.proofs.laws.time_comes_to_the_wall_clock.Goals as goal

pub returns : goal.returns
returns c = comes_in_time
