use Rattle.sv_audit_command.proofs.AnswerLemmas.{answers_complete, answers_listed, answers_right}
use Rattle.sv_audit_command.proofs.row_answers.answers_are_exact.Goals as goal

pub returns-clause-complete : goal.returns-clause-complete
returns-clause-complete c = answers_complete c.best_stands_first.ensures c.best_is_a_match.ensures c.canonical_has_shape.ensures c.each_path_is_represented.ensures

pub returns-clause-right : goal.returns-clause-right
returns-clause-right c = answers_right

pub returns-clause-listed : goal.returns-clause-listed
returns-clause-listed c = answers_listed
