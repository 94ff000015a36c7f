use Rattle.sv_exchange.specs.Changing.{SetAttribute}
use Rattle.sv_exchange.proofs.Reaching.{reached_by}
use Rattle.sv_exchange.proofs.exchange.Exchange.set_attribute.Goals as goal

pub returns-clause-reached : goal.returns-clause-reached
returns-clause-reached c = reached_by (SetAttribute c.args.name.now c.args.value.now) c.do_set_attribute.result c.args.self.now c.do_set_attribute.new.self c.do_set_attribute.ensures
