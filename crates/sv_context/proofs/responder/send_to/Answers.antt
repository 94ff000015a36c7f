use Rattle.std.proofs.Common.{ap}
use Rattle.sv_dispatch.specs.Did.{seen}
use Rattle.sv_context.proofs.Responses.{sends_so}
use Rattle.sv_context.proofs.responder.send_to.Goals as goal

pub returns : goal.returns
returns c =
    sends_so c.args.location.now c.args.exchange.now c.set_status.new.self c.set_status.result c.set_status.ensures.does (seen c.made.result) c.made.ensures
    (ap seen c.in-Ok.is) c.set_header.new.self c.set_header.result (seen c.made-2.result) c.set_header.ensures.does c.made-2.ensures
