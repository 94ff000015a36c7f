use Rattle.sv.proofs.SessionNames.{names_differ}
use Rattle.sv.proofs.session_name.session_names_differ.Goals as goal

pub returns : goal.returns
returns c = names_differ
