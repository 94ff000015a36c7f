use Rattle.sv_exchange.specs.Changing.{Flush}
use Rattle.sv_deployments.proofs.Leaving.{caller_left, fields_left}
use Rattle.sv_deployments.proofs.stream.flush.Goals as goal

pub returns-clause-fields : goal.returns-clause-fields
returns-clause-fields c = fields_left Flush tt c.flush.result c.args.exchange.now c.flush.new.self c.flush.ensures.does

pub returns-clause-caller : goal.returns-clause-caller
returns-clause-caller c = caller_left Flush tt c.flush.result c.args.exchange.now c.flush.new.self c.flush.ensures.does
