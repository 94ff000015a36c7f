use Rattle.sv_exchange.specs.Changing.{Flush}
use Rattle.sv_exchange.proofs.Reaching.{reached_by}
use Rattle.sv_exchange.proofs.exchange.Exchange.flush.Goals as goal

pub returns-clause-reached : goal.returns-clause-reached
returns-clause-reached c = reached_by Flush c.do_flush.result c.args.self.now c.do_flush.new.self c.do_flush.ensures
