use Rattle.sv_exchange.specs.Changing.{SessionOpen}
use Rattle.sv_exchange.proofs.Reaching.{reached_by}
use Rattle.sv_exchange.proofs.exchange.Exchange.session_open.Goals as goal

pub returns-clause-reached : goal.returns-clause-reached
returns-clause-reached c = reached_by SessionOpen c.do_session_open.result c.args.self.now c.do_session_open.new.self c.do_session_open.ensures
