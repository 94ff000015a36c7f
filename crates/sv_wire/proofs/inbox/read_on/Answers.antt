use Rattle.std.proofs.Common.{◌≡◌, ◌++◌, length, arith, rules}
use Rattle.sv_wire.proofs.ReadingLemmas.{awaits_end}
use Rattle.sv_wire.proofs.inbox.read_on.Goals as goal

pub read_items-requires-clause-before : goal.read_items-requires-clause-before
read_items-requires-clause-before c =
    let text : c.deref.result.now ≡ c.args.held.items ++ c.args.piece.now = search rules in
    let held : c.len-from.result ≡ length c.args.held.items = search rules in
    rw text (λ k below. awaits_end c.args.held.items c.args.piece.now c.requires.unended k (omega (arith, held)))
