use Rattle.std.proofs.Common.{arith}
use Rattle.sv_session.proofs.KeptLemmas.{kept_used}
use Rattle.sv_session.proofs.sessions.Sessions.use_serials.Goals as goal

pub invariant_of-self : goal.invariant_of-self
invariant_of-self c =
    kept_used c.self.inside.serial c.min-self-inside.result c.self.inside.count c.self.inside.slots.items c.self.inside.ids c.self.inside.queue
    (omega (arith, c.self.invariant.fits, c.min-self-inside.ensures)) (omega (arith, c.min-self-inside.ensures)) c.self.invariant
