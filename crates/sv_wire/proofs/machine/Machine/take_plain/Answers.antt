use Rattle.std.proofs.Common.{◌≡◌, ◌++◌, take, rules}
use Rattle.sv_wire.proofs.MachineLemmas.{plain_awaits}
use Rattle.sv_wire.proofs.machine.Machine.take_plain.Goals as goal

pub returns-then-here-count : goal.returns-then-here-count
returns-then-here-count c =
    let body = c.args.self.now.body.items in
    let after : c.extend_from_slice.new.self.items ≡ body ++ take c.min-here.result c.args.text.now = search rules in
    rw (after, c.requires) (plain_awaits body c.args.text.now c.args.count c.min-here.result c.min-here.ensures c.if-here-count.true)
