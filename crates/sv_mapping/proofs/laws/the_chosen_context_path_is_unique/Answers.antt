use Rattle.sv_mapping.proofs.Longest.{chosen_equal}
use Rattle.sv_mapping.proofs.laws.the_chosen_context_path_is_unique.Goals as goal

pub returns : goal.returns
returns c = chosen_equal
