use Rattle.sv_mapping.proofs.BestPlace.{best_place}
use Rattle.sv_mapping.proofs.laws.best_stands_first.Goals as goal

pub returns : goal.returns
returns c = best_place
