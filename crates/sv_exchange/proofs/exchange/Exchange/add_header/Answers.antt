use Rattle.sv_exchange.specs.Changing.{AddHeader}
use Rattle.sv_exchange.proofs.Reaching.{reached_by}
use Rattle.sv_exchange.proofs.exchange.Exchange.add_header.Goals as goal

pub returns-clause-reached : goal.returns-clause-reached
returns-clause-reached c = reached_by (AddHeader c.args.name.now c.args.value.now) c.do_add_header.result c.args.self.now c.do_add_header.new.self c.do_add_header.ensures
