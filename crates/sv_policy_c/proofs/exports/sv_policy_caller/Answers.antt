-- The returned number is that of the status.
use Rattle.sv_policy_c.specs.declared.status.Status.TheVariants as status
use Rattle.sv_policy_c.proofs.Held.{done_held, nothing_held}
use Rattle.sv_policy_c.proofs.exports.sv_policy_caller.Goals as goal

pub returns-in_default-clause-told : goal.returns-in_default-clause-told
returns-in_default-clause-told c = (status.Nothing, c.number.ensures, nothing_held _ _ c.in_default.ensures.taken)

pub returns-clause-told : goal.returns-clause-told
returns-clause-told c = (status.Written, c.number-2.ensures, done_held _ _ c.in-Some.ensures.taken)
