use Rattle.sv_mapping.proofs.Cuts.{behind_first}
use Rattle.sv_mapping.proofs.segments.behind_root.Goals as goal

pub returns : goal.returns
returns c = behind_first c.args.path.now c.strip_prefix.result c.strip_prefix.ensures.cases
