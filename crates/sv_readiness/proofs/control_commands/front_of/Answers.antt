use Rattle.std.proofs.Common.{sym}
use Rattle.std.proofs.lemmas.List.{take_all}
use Rattle.sv_readiness.specs.declared.limits.TheConstants.{MAX_LINE_BYTES}
use Rattle.sv_readiness.proofs.control_commands.front_of.Goals as goal

pub returns-then-bytes-le-MAX_LINE_BYTES : goal.returns-then-bytes-le-MAX_LINE_BYTES
returns-then-bytes-le-MAX_LINE_BYTES c = sym (take_all MAX_LINE_BYTES c.args.bytes.now c.if-bytes-le-MAX_LINE_BYTES.true)
