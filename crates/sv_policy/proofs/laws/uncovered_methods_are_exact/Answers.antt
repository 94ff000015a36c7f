use Rattle.sv_policy.proofs.UncoveredLemmas.{uncovered_exact, uncovered_rise}
use Rattle.sv_policy.proofs.laws.uncovered_methods_are_exact.Goals as goal

pub returns-clause-exact : goal.returns-clause-exact
returns-clause-exact c = uncovered_exact

pub returns-clause-rises : goal.returns-clause-rises
returns-clause-rises c = uncovered_rise
