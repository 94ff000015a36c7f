-- A descriptor that is read is not reported as invalid text.
use Rattle.sv_policy_c.specs.declared.status.Status.TheVariants as status
use Rattle.sv_policy_c.proofs.Held.{written_calls}
use Rattle.sv_policy_c.proofs.exports.sv_policy_open.Goals as goal

pub returns-in-Ok-clause-text : goal.returns-in-Ok-clause-text
returns-in-Ok-clause-text c = (status.Written, c.number.ensures, written_calls c.args.path.now c.args.descriptor.now)

pub returns-in-Ok-clause-room : goal.returns-in-Ok-clause-room
returns-in-Ok-clause-room c = (status.Written, c.number.ensures, c.in-Ok.ensures.room_kept)
