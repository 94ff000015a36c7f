use Rattle.std.proofs.Common.{subst}
use Rattle.sv_access_log.specs.Writing.{Writes}
use Rattle.sv_access_log.proofs.access_log.AccessLogEventHandler.step.Goals as goal

pub returns-in-Ok : goal.returns-in-Ok
returns-in-Ok g c =
    let answered = g.R.AccessSource.answered c.step.new.self in
    let of_journal = subst (λ journal. Writes g.O.Stream.makes answered journal c.reach.new.self c.log.new.self.writer) c.entries.ensures c.log.ensures.writes in
    let at_time = subst (λ log. Writes g.O.Stream.makes answered c.in-Ok.reaction.journal.entries log c.log.new.self.writer) c.reach.ensures of_journal in
    rw c.log.ensures.within (c.in-Ok.ensures, at_time)
