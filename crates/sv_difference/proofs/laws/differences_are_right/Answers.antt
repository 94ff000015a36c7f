use Rattle.sv_difference.proofs.DifferenceLemmas.{are_right}
use Rattle.sv_difference.proofs.laws.differences_are_right.Goals as goal

pub returns : goal.returns
returns c = are_right c.tables_are_right.ensures.answers c.best_is_of_texts.ensures
