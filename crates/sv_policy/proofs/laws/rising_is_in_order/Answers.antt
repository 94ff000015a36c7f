use Rattle.sv_policy.proofs.Rising.{rising_lists, rising_rises, rising_same}
use Rattle.sv_policy.proofs.laws.rising_is_in_order.Goals as goal

pub returns-clause-rises : goal.returns-clause-rises
returns-clause-rises c = rising_rises

pub returns-clause-texts : goal.returns-clause-texts
returns-clause-texts c = rising_lists

pub returns-clause-alone : goal.returns-clause-alone
returns-clause-alone c = rising_same
