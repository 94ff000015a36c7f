use Rattle.std.proofs.Common.{None, refl}
use Rattle.sv_policy.proofs.merged.Merged.none.Goals as goal

pub returns : goal.returns
returns c = λ rules. record { found = c.none.ensures rules None; everyone = refl; roles = c.new.ensures }
