use Rattle.sv_exchange.specs.Changing.{Write}
use Rattle.sv_exchange.proofs.Reaching.{reached_by}
use Rattle.sv_exchange.proofs.exchange.Exchange.write.Goals as goal

pub returns-clause-reached : goal.returns-clause-reached
returns-clause-reached c = reached_by (Write c.args.bytes.now) c.do_write.result c.args.self.now c.do_write.new.self c.do_write.ensures
