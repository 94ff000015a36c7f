use Rattle.sv_tree.proofs.Ending.{includes_end_in_no_error}
use Rattle.sv_tree.proofs.laws.includes_end_in_no_error.Goals as goal

pub returns : goal.returns
returns c = includes_end_in_no_error
