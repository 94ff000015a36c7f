use Rattle.sv_exchange.specs.Changing.{Logout}
use Rattle.sv_exchange.proofs.Reaching.{reached_by}
use Rattle.sv_exchange.proofs.exchange.Exchange.logout.Goals as goal

pub returns-clause-reached : goal.returns-clause-reached
returns-clause-reached c = reached_by Logout c.do_logout.result c.args.self.now c.do_logout.new.self c.do_logout.ensures.does
