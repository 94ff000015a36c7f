use Rattle.std.proofs.Common.{◌≤◌, subst}
use Rattle.sv_session.specs.Ids.{IdsDiffer}
use Rattle.sv_session.specs.declared.limits.TheConstants.{GREATEST_SERIAL}
use Rattle.sv_session.specs.Store.{Store}
use Rattle.sv_session.proofs.KeptLemmas.{in_order}
use Rattle.sv_session.proofs.RestoreLemmas.{can_be_restored}
use Rattle.sv_session.proofs.StoreLemmas.{store_seen}
use Rattle.sv_session.proofs.sessions.Sessions.serial.Goals as goal

pub returns-clause-restorable : goal.returns-clause-restorable
returns-clause-restorable c =
    can_be_restored c.args.self.now.store
    (subst (λ (s : Store). s.serial ≤ GREATEST_SERIAL) (store_seen c.self.view_is) c.self.invariant.fits)
    (in_order c.self.inside.limit c.self.inside.interval c.self.inside.serial c.self.inside.slots.items c.args.self.now.store (store_seen c.self.view_is) c.self.invariant.rise)
    (subst (λ (s : Store). IdsDiffer s.serial s.sessions) (store_seen c.self.view_is) c.self.invariant.differ)

pub returns-clause-order : goal.returns-clause-order
returns-clause-order c =
    in_order c.self.inside.limit c.self.inside.interval c.self.inside.serial c.self.inside.slots.items c.args.self.now.store (store_seen c.self.view_is) c.self.invariant.rise
