use Rattle.sv_tree.specs.SiteOfDescriptor.{site_of}
use Rattle.sv_dispatch.proofs.FilingDeeds.{sends_to_there, sends_to_unlocated}
use Rattle.sv_dispatch.proofs.file_servlet.send_to.Goals as goal

pub returns-in_default-set_header : goal.returns-in_default-set_header
returns-in_default-set_header g c =
    sends_to_unlocated g.M.Machine.state g.M.Machine.frame g.M.Machine.ran (site_of c.args.site.now) c.args.location.now
    c.args.machine.now c.empty.new.self c.empty.ensures c.set_status.new.self c.set_header.new.self c.in-Ok.ensures c.in_default-set_header.ensures

pub returns : goal.returns
returns g c =
    sends_to_there g.M.Machine.state g.M.Machine.frame g.M.Machine.ran (site_of c.args.site.now) c.args.location.now
    c.args.machine.now c.empty.new.self c.empty.ensures c.set_status.new.self c.set_header.new.self c.in-Ok.ensures c.in-Ok-set_header.ensures
