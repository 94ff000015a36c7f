use Rattle.std.specs.Prelude.{codes}
use Rattle.std.proofs.Common.{refl}
use Rattle.sv_exchange.specs.Changing.{SetHeader}
use Rattle.sv_deployments.proofs.Leaving.{caller_left, fields_left}
use Rattle.sv_deployments.proofs.plain.set_plain.Goals as goal

pub returns-clause-fields : goal.returns-clause-fields
returns-clause-fields c = fields_left (SetHeader (codes "content-type") (codes "text/plain")) record { internal = refl; target = refl; caller = refl; roles = refl; cookies = refl } c.set_header.result c.args.exchange.now c.set_header.new.self c.set_header.ensures.does

pub returns-clause-caller : goal.returns-clause-caller
returns-clause-caller c = caller_left (SetHeader (codes "content-type") (codes "text/plain")) tt c.set_header.result c.args.exchange.now c.set_header.new.self c.set_header.ensures.does
