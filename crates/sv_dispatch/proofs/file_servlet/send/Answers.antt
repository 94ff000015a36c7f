use Rattle.sv_dispatch.specs.Did.{seen}
use Rattle.sv_tree.specs.SiteOfDescriptor.{site_of}
use Rattle.sv_dispatch.proofs.FilingDeeds.{sends_too_much, sends_whole}
use Rattle.sv_dispatch.proofs.file_servlet.send.Goals as goal

pub returns-then-sent : goal.returns-then-sent
returns-then-sent g c =
    sends_whole g.M.Machine.state g.M.Machine.frame g.M.Machine.ran (site_of c.args.site.now) c.args.content_type.now c.args.bytes.now
    c.args.machine.now c.set_header.new.self c.offer.new.self c.in-Ok.ensures c.in-Ok-offer.sent c.if-sent.true c.in-Ok-offer.ensures

pub returns : goal.returns
returns g c =
    sends_too_much g.M.Machine.state g.M.Machine.frame g.M.Machine.ran (site_of c.args.site.now) c.args.content_type.now c.args.bytes.now
    c.args.machine.now c.set_header.new.self c.offer.new.self c.in-Ok.ensures c.in-Ok-offer.sent c.fault.new.machine (seen c.fault.result)
    c.if-sent.false c.in-Ok-offer.ensures c.fault.ensures
