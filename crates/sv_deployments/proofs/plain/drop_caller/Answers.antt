use Rattle.sv_exchange.specs.Changing.{Logout}
use Rattle.sv_deployments.proofs.Leaving.{fields_left}
use Rattle.sv_deployments.proofs.plain.drop_caller.Goals as goal

pub returns-clause-fields : goal.returns-clause-fields
returns-clause-fields c = fields_left Logout tt c.logout.result c.args.exchange.now c.logout.new.self c.logout.ensures.does
