use Rattle.sv_realm.proofs.First.{finds_the_first, misses_none}
use Rattle.sv_realm.proofs.laws.the_first_user_of_a_name_counts.Goals as goal

pub returns-clause-found : goal.returns-clause-found
returns-clause-found c = finds_the_first

pub returns-clause-missed : goal.returns-clause-missed
returns-clause-missed c = misses_none
