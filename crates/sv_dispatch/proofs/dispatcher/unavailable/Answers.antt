use Rattle.sv_dispatch.specs.Did.{seen}
use Rattle.sv_tree.specs.Endings.{is_away_for}
use Rattle.sv_tree.specs.SiteOfDescriptor.{site_of}
use Rattle.sv_tree.specs.declared.site.Resource.TheVariants.{Servlet}
use Rattle.sv_dispatch.proofs.Deeds.{did_by}
use Rattle.sv_dispatch.proofs.DispatchDeeds.{stepped_away, stepped_gone}
use Rattle.sv_dispatch.proofs.dispatcher.unavailable.Goals as goal

pub returns-in-Ok : goal.returns-in-Ok
returns-in-Ok g c =
    stepped_gone g.M.Machine.state g.M.Machine.frame g.M.Machine.ran (site_of c.args.site.now) c.args.room c.args.place c.args.seconds
    c.args.machine.now c.retire.new.self c.missing.new.machine c.missing.result c.lasting.result c.in-None.is c.in-Ok.ensures c.missing.ensures c.lasting.ensures

pub returns-in-Some : goal.returns-in-Some
returns-in-Some g c =
    stepped_away g.M.Machine.state g.M.Machine.frame g.M.Machine.ran (site_of c.args.site.now) c.args.room c.args.place c.args.seconds c.in-Some.seconds
    c.args.machine.now c.away.new.self c.away_for.new.machine c.away_for.result c.lasting-in-Some.result c.in-Some.is c.away.ensures
    (did_by g.M.Machine.state g.M.Machine.frame g.M.Machine.ran (λ seconds. is_away_for (site_of c.args.site.now) (Servlet c.args.place) seconds) c.from.result c.in-Some.seconds
    c.away.new.self c.away_for.new.machine (seen c.away_for.result) c.from.ensures c.away_for.ensures)
    c.lasting-in-Some.ensures
