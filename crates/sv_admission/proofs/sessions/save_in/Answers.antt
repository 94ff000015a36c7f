use Rattle.sv_admission.proofs.Saving.{held_so}
use Rattle.sv_exchange.specs.Asked.{asked_in}
use Rattle.sv_admission.specs.Seen.{seen}
use Rattle.sv_admission.proofs.sessions.save_in.Goals as goal

pub returns-in-Some : goal.returns-in-Some
returns-in-Some c =
    held_so (asked_in c.args.request.now) c.args.target c.args.held c.in-Some.number c.args.sessions.now c.save.new.self (seen c.save.new.self.store c.unchanged.result)
    c.in-Some.is c.save.ensures.left (c.unchanged.ensures c.save.new.self.store)
