use Rattle.sv_difference.proofs.ExampleLemmas.{none_if_same}
use Rattle.sv_difference.proofs.UnchangedLemmas.{unchanged_if_same}
use Rattle.sv_difference.proofs.laws.same_outcomes_are_unchanged.Goals as goal

pub returns-clause-differences : goal.returns-clause-differences
returns-clause-differences c = none_if_same c.differences_are_right.ensures

pub returns-clause-report : goal.returns-clause-report
returns-clause-report c = unchanged_if_same c.differences_are_right.ensures c.the_chosen_context_path_is_unique.ensures
