use Rattle.std.proofs.Common.{sym}
use Rattle.sv_session.proofs.SlotLemmas.{at_there}
use Rattle.sv_session.proofs.StoreLemmas.{numbered_at, store_seen}
use Rattle.sv_session.proofs.sessions.Sessions.session.Goals as goal

pub returns : goal.returns
returns c =
    sym (numbered_at c.args.number c.in_ok-place.place c.self.inside.limit c.self.inside.interval c.self.inside.serial c.self.inside.slots.items c.args.self.now.store (store_seen c.self.view_is) c.index.result.now (at_there c.args.number c.self.inside.serial c.self.inside.slots.items c.as_slice.result.now c.in_ok-place.place c.index.result.now c.as_slice.ensures.value c.self.invariant.rise c.in_ok-place.ensures.place c.index.ensures))
