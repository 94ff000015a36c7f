use Rattle.std.proofs.Common.{ap}
use Rattle.std.specs.Option.{option_copied}
use Rattle.sv_context.proofs.Responses.{tells_none}
use Rattle.sv_context.proofs.responder.tell_first.Goals as goal
use Rattle.sv_component.specs.Steps.{steps_of}

pub returns-in-None-clause-told : goal.returns-in-None-clause-told
returns-in-None-clause-told g c = λ site exchange hearing.
    tells_none (steps_of g.S.Servlet.servlet_step g.F.Filter.filter_step g.L.Listener.listener_step) site c.args.live.now c.args.live.now exchange c.args.journal.now c.args.journal.now
    (option_copied c.args.event) (ap option_copied c.in-None.is)
