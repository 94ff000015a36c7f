use Rattle.sv_policy.proofs.Gapped.{gaps_exact}
use Rattle.sv_policy.proofs.laws.gaps_are_exact.Goals as goal

pub returns : goal.returns
returns c = gaps_exact c.rising_is_in_order.ensures.texts c.uncovered_methods_are_exact.ensures.exact
