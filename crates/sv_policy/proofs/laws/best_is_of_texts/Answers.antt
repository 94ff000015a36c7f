use Rattle.sv_policy.proofs.Best.{best_same}
use Rattle.sv_policy.proofs.laws.best_is_of_texts.Goals as goal

pub returns : goal.returns
returns c = best_same c.best_is_unique.ensures
