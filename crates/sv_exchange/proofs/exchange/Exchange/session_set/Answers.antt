use Rattle.sv_exchange.specs.Changing.{SessionSet}
use Rattle.sv_exchange.proofs.Reaching.{reached_by}
use Rattle.sv_exchange.proofs.exchange.Exchange.session_set.Goals as goal

pub returns-clause-reached : goal.returns-clause-reached
returns-clause-reached c = reached_by (SessionSet c.args.name.now c.args.value.now) c.do_session_set.result c.args.self.now c.do_session_set.new.self c.do_session_set.ensures
