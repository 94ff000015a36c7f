use Rattle.std.specs.Prelude.{codes}
use Rattle.sv_exchange.specs.Changing.{SessionSet}
use Rattle.sv_deployments.proofs.Leaving.{caller_left, fields_left}
use Rattle.sv_deployments.proofs.keep.set_count.Goals as goal

pub returns-clause-fields : goal.returns-clause-fields
returns-clause-fields c = fields_left (SessionSet (codes "n") c.args.count.now) tt c.session_set.result c.args.exchange.now c.session_set.new.self c.session_set.ensures.does

pub returns-clause-caller : goal.returns-clause-caller
returns-clause-caller c = caller_left (SessionSet (codes "n") c.args.count.now) tt c.session_set.result c.args.exchange.now c.session_set.new.self c.session_set.ensures.does
