use Rattle.std.proofs.Common.{arith}
use Rattle.std.proofs.lemmas.Grind.{text_groups}
use Rattle.sv_policy.proofs.groups.push_member.Goals as goal

pub returns-clause-items : goal.returns-clause-items
returns-clause-items c = λ q. grind (arith, text_groups)

pub returns-clause-keys : goal.returns-clause-keys
returns-clause-keys c = λ q. grind (arith, text_groups)
