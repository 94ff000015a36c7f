use Rattle.std.specs.Option.{option_copied}
use Rattle.sv_dispatch.specs.Did.{seen}
use Rattle.sv_dispatch.proofs.ExchangeDeeds.{resets_so}
use Rattle.sv_dispatch.proofs.plain_answer.reset.Goals as goal

pub returns : goal.returns
returns c =
    resets_so c.args.status (option_copied c.args.field) c.args.exchange.now c.reset.new.self c.set_status.new.self c.set_field.new.exchange c.set_status.result c.made.result
    (seen c.set_field.result) c.reset.ensures c.set_status.ensures.does c.made.ensures c.in-Ok.is c.set_field.ensures
