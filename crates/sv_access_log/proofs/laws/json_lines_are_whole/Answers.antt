use Rattle.sv_access_log.proofs.JsonLemmas.{json_is_whole}
use Rattle.sv_access_log.proofs.laws.json_lines_are_whole.Goals as goal

pub returns : goal.returns
returns c = json_is_whole
