use Rattle.std.proofs.Common.{rules, ◌<◌, ◌≤◌, List, length, sym, subst, ◌∙◌}
use Rattle.sv_exchange.specs.declared.dispatch.Dispatch.{Dispatch}
use Rattle.sv_exchange.proofs.Leaving.{one_less}
use Rattle.sv_exchange.proofs.dispatches.Dispatches.pop.Goals as goal

pub returns : goal.returns
returns c =
    let some = subst (λ (xs : List Dispatch). 0 < length xs) (sym c.self.view_is) c.requires in
    let within : c.self.inside.depth ≤ length c.self.inside.list.items = search rules in
    let last = one_less c.self.inside.list.items c.self.inside.depth some within in
    (last.0, sym c.self.view_is ∙ last.1)
