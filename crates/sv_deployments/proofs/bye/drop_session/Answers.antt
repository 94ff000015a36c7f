use Rattle.sv_exchange.specs.Changing.{SessionEnd}
use Rattle.sv_deployments.proofs.Leaving.{fields_left}
use Rattle.sv_deployments.proofs.bye.drop_session.Goals as goal

pub returns-clause-fields : goal.returns-clause-fields
returns-clause-fields c = fields_left SessionEnd tt c.session_end.result c.args.exchange.now c.session_end.new.self c.session_end.ensures.does
