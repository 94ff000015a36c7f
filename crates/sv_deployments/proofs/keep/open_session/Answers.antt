use Rattle.sv_exchange.specs.Changing.{SessionOpen}
use Rattle.sv_deployments.proofs.Leaving.{caller_left, fields_left}
use Rattle.sv_deployments.proofs.keep.open_session.Goals as goal

pub returns-clause-fields : goal.returns-clause-fields
returns-clause-fields c = fields_left SessionOpen tt c.session_open.result c.args.exchange.now c.session_open.new.self c.session_open.ensures.does

pub returns-clause-caller : goal.returns-clause-caller
returns-clause-caller c = caller_left SessionOpen tt c.session_open.result c.args.exchange.now c.session_open.new.self c.session_open.ensures.does
