use Rattle.sv_headline.proofs.ProgramHandingOver.{the_program_hands_over_only_entries}
use Rattle.sv_headline.proofs.handed_over.the_program_hands_over_only_entries.Goals as goal

pub returns : goal.returns
returns g c = the_program_hands_over_only_entries g.W.Words.draws c.steps_hand_over_only_entries.ensures
