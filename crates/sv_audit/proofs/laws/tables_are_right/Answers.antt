use Rattle.sv_audit.proofs.Found.{answers, numbers}
use Rattle.sv_audit.proofs.laws.tables_are_right.Goals as goal

pub returns-clause-answers : goal.returns-clause-answers
returns-clause-answers c = answers c.best_exists.ensures c.best_is_a_match.ensures c.best_is_of_texts.ensures

pub returns-clause-numbers : goal.returns-clause-numbers
returns-clause-numbers c = numbers c.best_exists.ensures c.best_is_a_match.ensures c.best_is_of_texts.ensures
