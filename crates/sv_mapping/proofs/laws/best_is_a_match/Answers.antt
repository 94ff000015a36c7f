use Rattle.sv_mapping.proofs.BestMatches.{best_pattern-member}
use Rattle.sv_mapping.proofs.laws.best_is_a_match.Goals as goal

pub returns : goal.returns
returns c = best_pattern-member
