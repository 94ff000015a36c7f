use Rattle.std.proofs.Common.{◌∙◌, None, get_or, arith}
use Rattle.sv_session.specs.declared.node.Node.{Node}
use Rattle.sv_session.proofs.TreeLemmas.{owns_same, settled_below, settled_root, within_below}
use Rattle.sv_session.proofs.node.+settle.Goals as goal

abbrev none : Node
none = record { own = None; least = None }

pub settle-requires : goal.settle-requires
settle-requires t c = (
  omega (arith, c.if-place-gt0.true, c.decreases),
  (
    within_below c.args.nodes.now c.args.place (record { own = (get_or c.args.nodes.now c.args.place none).own; least = c.least_below-least.result }) c.requires.place,
    settled_below c.args.nodes.now c.args.place (get_or c.args.nodes.now c.args.place none).own c.least_below-least.result c.requires.place c.least_below-least.ensures c.requires.others c.if-place-gt0.true,
  ),
)

pub returns-then-place-gt0-clause-own : goal.returns-then-place-gt0-clause-own
returns-then-place-gt0-clause-own t c =
    c.settle.ensures.own ∙ owns_same c.args.nodes.now c.args.place none c.least_below-least.result c.requires.place

pub returns-else-place-gt0-clause-settled : goal.returns-else-place-gt0-clause-settled
returns-else-place-gt0-clause-settled t c =
    settled_root c.args.nodes.now c.args.place (get_or c.args.nodes.now c.args.place none).own c.least_below-least.result c.requires.place c.least_below-least.ensures c.requires.others (omega (arith, c.if-place-gt0.false))
