-- If the handle holds nothing, nothing is done.
use Rattle.std.proofs.Common.{refl}
use Rattle.sv_policy_c.specs.declared.status.Status.TheVariants as status
use Rattle.sv_policy_c.proofs.Held.{nothing_calls, nothing_held}
use Rattle.sv_policy_c.proofs.exports.sv_policy_decide.Goals as goal

pub returns-in_default-clause-decided : goal.returns-in_default-clause-decided
returns-in_default-clause-decided c = (status.Nothing, c.number.ensures, nothing_held _ _ c.in_default.ensures.taken)

pub returns-in_default-clause-text : goal.returns-in_default-clause-text
returns-in_default-clause-text c = (status.Nothing, c.number.ensures, nothing_calls c.args.method.now)

pub returns-in_default-clause-room : goal.returns-in_default-clause-room
returns-in_default-clause-room c = (status.Nothing, c.number.ensures, (refl, refl))
