use Rattle.std.proofs.Common.{None, Some, ap, ◌∙◌}
use Rattle.sv_tree.specs.Seen.{chosen_seen}
use Rattle.sv_tree.specs.Does.{tries}
use Rattle.sv_tree.specs.SiteOfDescriptor.{site_of}
use Rattle.sv_tree.specs.State.{on_exchange}
use Rattle.sv_tree.specs.Site.{begun_by, chosen}
use Rattle.sv_dispatch.proofs.Deeds.{did_by}
use Rattle.sv_dispatch.proofs.dispatcher.entered.Goals as goal

pub returns-in_default-clause-lacks : goal.returns-in_default-clause-lacks
returns-in_default-clause-lacks g c =
    did_by g.M.Machine.state g.M.Machine.frame g.M.Machine.ran (λ found. tries (on_exchange (begun_by found c.args.kind c.args.canon.now))) (chosen_seen c.chosen-chosen.result) (chosen (site_of c.args.site.now) c.args.canon.now.path)
    c.args.machine.now c.enter.new.self None (c.chosen-chosen.ensures.chosen ∙ ap (chosen (site_of c.args.site.now)) c.as_str.ensures) c.in_default.ensures

pub returns-clause-begins : goal.returns-clause-begins
returns-clause-begins g c =
    did_by g.M.Machine.state g.M.Machine.frame g.M.Machine.ran (λ found. tries (on_exchange (begun_by found c.args.kind c.args.canon.now))) (chosen_seen c.chosen-chosen.result) (chosen (site_of c.args.site.now) c.args.canon.now.path)
    c.args.machine.now c.enter.new.self (Some tt) (c.chosen-chosen.ensures.chosen ∙ ap (chosen (site_of c.args.site.now)) c.as_str.ensures) c.in-Ok.ensures

pub returns-clause-resource : goal.returns-clause-resource
returns-clause-resource g c = ap (λ found. found.resource) (c.chosen-chosen.ensures.chosen ∙ ap (chosen (site_of c.args.site.now)) c.as_str.ensures)
