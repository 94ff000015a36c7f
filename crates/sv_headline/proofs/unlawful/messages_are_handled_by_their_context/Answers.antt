use Rattle.sv_component.specs.Steps.{steps_of}
use Rattle.sv_headline.proofs.Refuting.{messages_are_handled_by_their_context}
use Rattle.sv_headline.proofs.unlawful.messages_are_handled_by_their_context.Goals as goal

pub returns : goal.returns
returns g c = messages_are_handled_by_their_context (steps_of g.S.Servlet.servlet_step g.F.Filter.filter_step g.L.Listener.listener_step)
