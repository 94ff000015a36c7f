use Rattle.sv_difference.proofs.DifferenceLemmas.{are_complete, none_exactly}
use Rattle.sv_difference.proofs.laws.differences_are_complete.Goals as goal

pub returns-clause-complete : goal.returns-clause-complete
returns-clause-complete c = are_complete c.tables_are_right.ensures.answers c.best_is_of_texts.ensures

pub returns-clause-exact : goal.returns-clause-exact
returns-clause-exact c = none_exactly c.tables_are_right.ensures.answers c.best_is_of_texts.ensures
