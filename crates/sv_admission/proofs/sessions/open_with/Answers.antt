use Rattle.sv_admission.proofs.Saving.{full_so, opened_so, spent_so}
use Rattle.sv_exchange.specs.Asked.{asked_in}
use Rattle.sv_admission.specs.Seen.{seen}
use Rattle.sv_admission.proofs.sessions.open_with.Goals as goal

pub returns-in-Ok : goal.returns-in-Ok
returns-in-Ok c =
    opened_so (asked_in c.args.request.now) c.args.target c.args.sessions.now c.open.new.self c.save.new.self c.in-Ok.number (seen c.save.new.self.store c.renewed.result)
    c.in-Ok.ensures c.save.ensures.left (c.renewed.ensures c.save.new.self.store)

pub returns-in-Err-TooMany : goal.returns-in-Err-TooMany
returns-in-Err-TooMany c =
    full_so (asked_in c.args.request.now) c.args.target c.args.sessions.now c.open.new.self c.in-Err-TooMany.field-0 (seen c.open.new.self.store c.unchanged.result)
    c.in-Err-TooMany.field-0-is c.in-Err-TooMany.ensures (c.unchanged.ensures c.open.new.self.store)

pub returns-in-Err-SerialSpent : goal.returns-in-Err-SerialSpent
returns-in-Err-SerialSpent c =
    spent_so (asked_in c.args.request.now) c.args.target c.args.sessions.now c.open.new.self c.in-Err-SerialSpent.field-0 (seen c.open.new.self.store c.unchanged-in-Err-SerialSpent.result)
    c.in-Err-SerialSpent.field-0-is c.in-Err-SerialSpent.ensures (c.unchanged-in-Err-SerialSpent.ensures c.open.new.self.store)
