use Rattle.sv_exchange.specs.Changing.{SetHeader}
use Rattle.sv_exchange.proofs.Reaching.{reached_by}
use Rattle.sv_exchange.proofs.exchange.Exchange.set_header.Goals as goal

pub returns-clause-reached : goal.returns-clause-reached
returns-clause-reached c = reached_by (SetHeader c.args.name.now c.args.value.now) c.do_set_header.result c.args.self.now c.do_set_header.new.self c.do_set_header.ensures
