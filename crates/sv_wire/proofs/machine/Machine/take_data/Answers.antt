use Rattle.std.proofs.Common.{◌≡◌, ◌++◌, take, arith, rules}
use Rattle.sv_wire.proofs.MachineLemmas.{data_awaits, data_ends}
use Rattle.sv_wire.proofs.machine.Machine.take_data.Goals as goal

pub returns-then-here-count : goal.returns-then-here-count
returns-then-here-count c =
    let body = c.args.self.now.body.items in
    let after : c.extend_from_slice.new.self.items ≡ body ++ take c.min-here.result c.args.text.now = search rules in
    rw (after, c.requires.fit.0)
    (data_awaits body c.args.text.now c.args.count c.min-here.result c.min-here.ensures c.if-here-count.true c.requires.fit.1 c.requires.fit.2)

pub returns : goal.returns
returns c =
    let body = c.args.self.now.body.items in
    let after : c.extend_from_slice.new.self.items ≡ body ++ take c.min-here.result c.args.text.now = search rules in
    rw (after, c.requires.fit.0)
    (data_ends body c.args.text.now c.args.count c.min-here.result c.min-here.ensures (λ below. omega (arith, below, c.if-here-count.false)) c.requires.fit.1 c.requires.fit.2)
