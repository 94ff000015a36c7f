use Rattle.sv_tree.specs.SiteOfDescriptor.{site_of}
use Rattle.sv_dispatch.proofs.DispatchDeeds.{file_lacks}
use Rattle.sv_dispatch.proofs.dispatcher.file.Goals as goal

pub returns-in_default : goal.returns-in_default
returns-in_default g c room =
    file_lacks g.M.Machine.state g.M.Machine.frame g.M.Machine.ran (site_of c.args.site.now) room c.args.kind c.args.canon.now c.args.machine.now
