use Rattle.sv_exchange.specs.Changing.{Write}
use Rattle.sv_exchange.proofs.Reaching.{reached_by}
use Rattle.sv_exchange.proofs.exchange.Exchange.write_shared.Goals as goal

pub returns-clause-reached : goal.returns-clause-reached
returns-clause-reached c = reached_by (Write c.args.bytes.now) c.do_write_shared.result c.args.self.now c.do_write_shared.new.self c.do_write_shared.ensures
