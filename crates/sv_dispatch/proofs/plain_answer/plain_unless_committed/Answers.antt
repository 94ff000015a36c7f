use Rattle.std.specs.Option.{option_copied}
use Rattle.sv_tree.specs.Served.{Plain}
use Rattle.sv_dispatch.specs.Did.{seen}
use Rattle.sv_dispatch.proofs.ExchangeDeeds.{unless_broken, unless_so}
use Rattle.sv_dispatch.proofs.plain_answer.plain_unless_committed.Goals as goal

pub returns-then-committed : goal.returns-then-committed
returns-then-committed c =
    unless_broken (Plain c.args.status (option_copied c.args.field)) c.args.exchange.now c.break_off.new.self c.committed.result
    c.committed.ensures c.if-committed.true c.break_off.ensures

pub returns : goal.returns
returns c =
    unless_so (Plain c.args.status (option_copied c.args.field)) c.args.exchange.now c.plain.new.exchange c.committed.result (seen c.plain.result)
    c.committed.ensures c.if-committed.false c.plain.ensures
