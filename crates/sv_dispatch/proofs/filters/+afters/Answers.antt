use Rattle.std.proofs.Common.{◌≡◌, ◌<◌, ◌-◌, suc, length, take, reverse, subst, sym, arith}
use Rattle.sv_dispatch.specs.Did.{seen}
use Rattle.sv_tree.specs.Filters.{Afters}
use Rattle.sv_dispatch.proofs.Deeds.{Makes}
use Rattle.sv_dispatch.proofs.FilterDeeds.{afters_called}
use Rattle.sv_dispatch.proofs.filters.+afters.Goals as goal

pub returns : goal.returns
returns g t c =
    let m = g.M.Machine in
    let chain = c.args.chain.now in
    let one : c.args.count ≡ suc (c.args.count - 1) = omega arith in
    let below : c.args.count - 1 < length chain = omega arith in
    subst (λ count. Makes m.state m.frame m.ran (Afters (m.frame c.args.machine.now).listeners (reverse (take count chain))) c.args.machine.now c.afters.new.machine (seen c.afters.result)) (sym one)
    (afters_called m.state m.frame m.ran chain (c.args.count - 1) below c.args.machine.now c.after.new.self c.afters.new.machine c.in-Ok.done (seen c.afters.result)
    c.if-not-done.false c.in-Ok.ensures c.afters.ensures)
