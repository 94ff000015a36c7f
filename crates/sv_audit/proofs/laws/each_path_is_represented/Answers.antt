use Rattle.sv_audit.proofs.Represented.{represented}
use Rattle.sv_audit.proofs.laws.each_path_is_represented.Goals as goal

pub returns : goal.returns
returns c = represented
