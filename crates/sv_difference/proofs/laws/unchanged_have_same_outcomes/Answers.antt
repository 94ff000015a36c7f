use Rattle.sv_difference.proofs.ToldLemmas.{same_outcomes}
use Rattle.sv_difference.proofs.laws.unchanged_have_same_outcomes.Goals as goal

pub returns : goal.returns
returns c =
    same_outcomes c.differences_are_complete.ensures.complete c.best_is_of_texts.ensures c.examples_are_right.ensures.reachable c.each_path_is_resembled.ensures c.served_paths_are_rooted.ensures c.the_chosen_context_path_is_unique.ensures
    c.a_context_is_found_where_one_serves.ensures
