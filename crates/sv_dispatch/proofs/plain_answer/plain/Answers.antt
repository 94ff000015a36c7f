use Rattle.std.proofs.Common.{◌∙◌}
use Rattle.std.specs.Option.{option_copied}
use Rattle.sv_dispatch.specs.Did.{seen}
use Rattle.sv_dispatch.proofs.ExchangeDeeds.{plain_not, plain_so, plain_untyped, plain_unwritten}
use Rattle.sv_dispatch.proofs.plain_answer.plain.Goals as goal

pub returns-in_default : goal.returns-in_default
returns-in_default c = plain_not c.args.status (option_copied c.args.field) c.args.exchange.now c.reset.new.exchange c.in_default.ensures

pub returns-in_default-made : goal.returns-in_default-made
returns-in_default-made c =
    plain_untyped c.args.status (option_copied c.args.field) c.args.exchange.now c.reset.new.exchange c.in-Ok.ensures c.set_header.new.self c.set_header.result
    c.set_header.ensures.does c.in_default-made.ensures

pub returns-in_default-plain_text : goal.returns-in_default-plain_text
returns-in_default-plain_text c =
    plain_unwritten c.args.status (option_copied c.args.field) c.args.exchange.now c.reset.new.exchange c.in-Ok.ensures c.set_header.new.self c.set_header.result
    c.set_header.ensures.does c.in-Ok-made.ensures

pub returns : goal.returns
returns c =
    plain_so c.args.status (option_copied c.args.field) c.args.exchange.now c.reset.new.exchange c.in-Ok.ensures c.set_header.new.self c.set_header.result
    c.set_header.ensures.does c.as_bytes.result.now c.write.new.self c.write.result (seen c.made-2.result) c.in-Ok-made.ensures
    (c.as_bytes.ensures.value ∙ c.in-Ok-plain_text.ensures) c.write.ensures.does c.made-2.ensures
