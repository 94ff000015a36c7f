use Rattle.sv_exchange.specs.Changing.{SessionRemove}
use Rattle.sv_exchange.proofs.Reaching.{reached_by}
use Rattle.sv_exchange.proofs.exchange.Exchange.session_remove.Goals as goal

pub returns-clause-reached : goal.returns-clause-reached
returns-clause-reached c = reached_by (SessionRemove c.args.name.now) c.do_session_remove.result c.args.self.now c.do_session_remove.new.self c.do_session_remove.ensures
