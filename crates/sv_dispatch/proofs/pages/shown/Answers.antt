use Rattle.std.proofs.Common.{sym, subst}
use Rattle.sv_dispatch.specs.Did.{seen}
use Rattle.sv_dispatch.specs.ServedBy.{Alone}
use Rattle.sv_tree.specs.Served.{Plain, Shown, unless_committed}
use Rattle.sv_dispatch.proofs.pages.shown.Goals as goal

pub returns-in-Error : goal.returns-in-Error
returns-in-Error c =
    subst (λ finished. Alone (Shown c.args.sought.now.status c.args.sought.now.field finished) c.args.exchange.now c.plain_unless_committed.new.exchange (seen c.plain_unless_committed.result))
    (sym c.in-Error.is)
    (subst (λ its_field. Alone (unless_committed (Plain c.args.sought.now.status its_field)) c.args.exchange.now c.plain_unless_committed.new.exchange (seen c.plain_unless_committed.result))
    c.as_ref.ensures.value c.plain_unless_committed.ensures)

pub returns-in-Failed : goal.returns-in-Failed
returns-in-Failed c =
    subst (λ finished. Alone (Shown c.args.sought.now.status c.args.sought.now.field finished) c.args.exchange.now c.plain_unless_committed-in-Failed.new.exchange (seen c.plain_unless_committed-in-Failed.result))
    (sym c.in-Failed.is)
    (subst (λ its_field. Alone (unless_committed (Plain c.args.sought.now.status its_field)) c.args.exchange.now c.plain_unless_committed-in-Failed.new.exchange (seen c.plain_unless_committed-in-Failed.result))
    c.as_ref-in-Failed.ensures.value c.plain_unless_committed-in-Failed.ensures)
