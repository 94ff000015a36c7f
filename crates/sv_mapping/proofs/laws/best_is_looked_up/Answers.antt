use Rattle.sv_mapping.proofs.Found.{looked}
use Rattle.sv_mapping.proofs.laws.best_is_looked_up.Goals as goal

pub returns : goal.returns
returns c patterns path accepted = looked c.best_is_first_tried.ensures c.best_of_others.ensures c.best_stands_first.ensures patterns accepted path
