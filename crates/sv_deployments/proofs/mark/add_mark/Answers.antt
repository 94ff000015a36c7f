use Rattle.std.specs.Prelude.{codes}
use Rattle.std.proofs.Common.{refl}
use Rattle.sv_exchange.specs.Changing.{AddHeader}
use Rattle.sv_deployments.proofs.Leaving.{caller_left, fields_left}
use Rattle.sv_deployments.proofs.mark.add_mark.Goals as goal

pub returns-clause-fields : goal.returns-clause-fields
returns-clause-fields c = fields_left (AddHeader (codes "x-mark") c.args.name.now) record { internal = refl; target = refl; caller = refl; roles = refl; cookies = refl } c.add_header.result c.args.exchange.now c.add_header.new.self c.add_header.ensures.does

pub returns-clause-caller : goal.returns-clause-caller
returns-clause-caller c = caller_left (AddHeader (codes "x-mark") c.args.name.now) tt c.add_header.result c.args.exchange.now c.add_header.new.self c.add_header.ensures.does
