use Rattle.sv_exchange.specs.Changing.{SetStatus}
use Rattle.sv_exchange.proofs.Reaching.{reached_by}
use Rattle.sv_exchange.proofs.exchange.Exchange.set_status.Goals as goal

pub returns-clause-reached : goal.returns-clause-reached
returns-clause-reached c = reached_by (SetStatus c.args.status) c.do_set_status.result c.args.self.now c.do_set_status.new.self c.do_set_status.ensures.does
