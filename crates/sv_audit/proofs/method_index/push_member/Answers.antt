use Rattle.std.proofs.Common.{arith}
use Rattle.std.proofs.lemmas.Grind.{text_groups}
use Rattle.sv_audit.proofs.method_index.push_member.Goals as goal

pub returns : goal.returns
returns c = λ q. grind (arith, text_groups)
