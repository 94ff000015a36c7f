use Rattle.sv_mapping.proofs.Longest.{chosen_where_served}
use Rattle.sv_mapping.proofs.laws.a_context_is_found_where_one_serves.Goals as goal

pub returns : goal.returns
returns c = chosen_where_served
