use Rattle.std.proofs.Common.{Some, reverse, take}
use Rattle.sv_tree.specs.Does.{gives}
use Rattle.sv_tree.specs.Filters.{Afters}
use Rattle.sv_dispatch.proofs.Deeds.{did_give, did_not, did_then}
use Rattle.sv_dispatch.proofs.filters.leave_filters.Goals as goal

pub returns-in_default : goal.returns-in_default
returns-in_default g c =
    let m = g.M.Machine in
    did_not m.state m.frame m.ran (Afters (m.frame c.args.machine.now).listeners (reverse (take c.args.count c.args.chain.now))) (λ _. gives c.args.finished)
    c.args.machine.now c.afters.new.machine c.in_default.ensures

pub returns : goal.returns
returns g c =
    let m = g.M.Machine in
    did_then m.state m.frame m.ran (Afters (m.frame c.args.machine.now).listeners (reverse (take c.args.count c.args.chain.now))) (λ _. gives c.args.finished)
    c.args.machine.now c.afters.new.machine c.afters.new.machine tt (Some c.args.finished) c.in-Ok.ensures (did_give m.state m.frame m.ran c.args.finished c.afters.new.machine)
