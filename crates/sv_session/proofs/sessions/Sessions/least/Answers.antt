use Rattle.sv_session.proofs.KeptLemmas.{least_at}
use Rattle.std.proofs.Common.{Some, None, ◌∙◌, ap}
use Rattle.sv_session.proofs.StoreLemmas.{store_seen}
use Rattle.sv_session.proofs.sessions.Sessions.least.Goals as goal

pub returns-in_err-slot : goal.returns-in_err-slot
returns-in_err-slot c =
    c.from_residual.ensures ∙ least_at c.self.inside.limit c.self.inside.interval c.self.inside.serial c.self.inside.slots.items c.as_slice.result.now c.args.self.now.store c.as_slice.ensures.value (store_seen c.self.view_is) c.self.invariant.rise None c.in_err-slot.ensures

pub returns : goal.returns
returns c =
    ap Some c.number.ensures ∙ least_at c.self.inside.limit c.self.inside.interval c.self.inside.serial c.self.inside.slots.items c.as_slice.result.now c.args.self.now.store c.as_slice.ensures.value (store_seen c.self.view_is) c.self.invariant.rise (Some c.in_ok-slot.slot.now) c.in_ok-slot.ensures
