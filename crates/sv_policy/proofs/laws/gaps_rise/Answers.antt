use Rattle.sv_policy.proofs.Gapped.{gaps_rising}
use Rattle.sv_policy.proofs.laws.gaps_rise.Goals as goal

pub returns : goal.returns
returns c = gaps_rising c.rising_is_in_order.ensures.rises c.uncovered_methods_are_exact.ensures.rises
