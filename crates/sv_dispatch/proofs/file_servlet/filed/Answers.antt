use Rattle.std.proofs.Common.{sym, ap, ◌∙◌}
use Rattle.sv_dispatch.specs.Did.{seen}
use Rattle.sv_tree.specs.Seen.{found_seen}
use Rattle.sv_tree.specs.Files.{Filed}
use Rattle.sv_tree.specs.Site.{Redirect}
use Rattle.sv_tree.specs.SiteOfDescriptor.{site_of}
use Rattle.sv_dispatch.proofs.Deeds.{did_by}
use Rattle.sv_dispatch.proofs.file_servlet.filed.Goals as goal

pub returns-in-Redirect : goal.returns-in-Redirect
returns-in-Redirect g c =
    did_by g.M.Machine.state g.M.Machine.frame g.M.Machine.ran (λ found. Filed (site_of c.args.site.now) c.args.kind found)
    (Redirect c.as_str.result.now) (found_seen c.args.found) c.args.machine.now c.send_to.new.machine (seen c.send_to.result)
    (ap Redirect c.as_str.ensures ∙ sym (ap found_seen c.in-Redirect.is)) c.send_to.ensures
