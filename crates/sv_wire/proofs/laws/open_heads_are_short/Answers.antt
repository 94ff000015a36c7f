use Rattle.sv_wire.specs.declared.limits.TheConstants.{MAX_HEAD_LEN}
use Rattle.sv_text.proofs.FrontLemmas.{Unended-inverse}
use Rattle.sv_wire.proofs.laws.open_heads_are_short.Goals as goal

pub returns : goal.returns
returns c held is = (Unended-inverse MAX_HEAD_LEN held _ is).1
