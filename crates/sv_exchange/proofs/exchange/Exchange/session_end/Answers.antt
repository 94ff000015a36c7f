use Rattle.sv_exchange.specs.Changing.{SessionEnd}
use Rattle.sv_exchange.proofs.Reaching.{reached_by}
use Rattle.sv_exchange.proofs.exchange.Exchange.session_end.Goals as goal

pub returns-clause-reached : goal.returns-clause-reached
returns-clause-reached c = reached_by SessionEnd c.do_session_end.result c.args.self.now c.do_session_end.new.self c.do_session_end.ensures
