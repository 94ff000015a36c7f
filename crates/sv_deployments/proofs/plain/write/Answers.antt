use Rattle.sv_exchange.specs.Changing.{Write}
use Rattle.sv_deployments.proofs.Leaving.{caller_left, fields_left}
use Rattle.sv_deployments.proofs.plain.write.Goals as goal

pub returns-clause-fields : goal.returns-clause-fields
returns-clause-fields c = fields_left (Write c.args.text.now) tt c.write.result c.args.exchange.now c.write.new.self c.write.ensures.does

pub returns-clause-caller : goal.returns-clause-caller
returns-clause-caller c = caller_left (Write c.args.text.now) tt c.write.result c.args.exchange.now c.write.new.self c.write.ensures.does
