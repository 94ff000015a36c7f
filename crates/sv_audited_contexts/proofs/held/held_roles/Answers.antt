use Rattle.sv_audited_contexts.proofs.HeldLemmas.{roles_more}
use Rattle.sv_audited_contexts.proofs.held.held_roles.Goals as goal

pub loop-number-preserved : goal.loop-number-preserved
loop-number-preserved c = roles_more c.args.realm.now c.loop-number.number c.loop-number.roles.items c.push_roles_at.new.roles.items c.loop-number.invariant c.in_ok-push_roles_at.ensures
