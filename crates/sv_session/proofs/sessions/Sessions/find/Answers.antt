use Rattle.sv_session.specs.Slots.{living}
use Rattle.sv_session.proofs.LiveIdLemmas.{no_number}
use Rattle.sv_session.proofs.StoreLemmas.{store_seen}
use Rattle.sv_session.proofs.sessions.Sessions.find.Goals as goal

pub returns-then-id-ne-ID_BYTES : goal.returns-then-id-ne-ID_BYTES
returns-then-id-ne-ID_BYTES c =
    no_number c.self.inside.limit c.self.inside.interval c.self.inside.serial (living c.self.inside.slots.items) c.args.self.now.store (store_seen c.self.view_is) c.self.invariant.differ c.args.id.now c.if-id-ne-ID_BYTES.true
