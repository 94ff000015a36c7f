use Rattle.std.proofs.Common.{arith, sym, take_all}
use Rattle.std.proofs.lemmas.List.{length-take-le}
use Rattle.sv_page.proofs.shares.first_of.Goals as goal

pub slice_bounds-result-end : goal.slice_bounds-result-end
slice_bounds-result-end g c = sym (length-take-le _ c.args.items.now (omega (arith, c.if-items-most.false)))

pub returns-then-items-most : goal.returns-then-items-most
returns-then-items-most g c = sym (take_all _ c.args.items.now c.if-items-most.true)
