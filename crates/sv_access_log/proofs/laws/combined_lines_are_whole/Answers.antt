use Rattle.sv_access_log.proofs.CombinedLemmas.{combined_is_whole}
use Rattle.sv_access_log.proofs.laws.combined_lines_are_whole.Goals as goal

pub returns : goal.returns
returns c = combined_is_whole
