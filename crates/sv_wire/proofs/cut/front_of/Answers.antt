use Rattle.std.proofs.Common.{sym}
use Rattle.std.proofs.lemmas.List.{take_all}
use Rattle.sv_wire.specs.declared.limits.TheConstants.{MAX_HEAD_LEN}
use Rattle.sv_wire.proofs.cut.front_of.Goals as goal

pub returns-then-stream-le-MAX_HEAD_LEN : goal.returns-then-stream-le-MAX_HEAD_LEN
returns-then-stream-le-MAX_HEAD_LEN c = sym (take_all MAX_HEAD_LEN c.args.stream.now c.if-stream-le-MAX_HEAD_LEN.true)
