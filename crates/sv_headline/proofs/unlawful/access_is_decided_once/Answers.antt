use Rattle.sv_component.specs.Steps.{steps_of}
use Rattle.sv_headline.proofs.Deciding.{access_is_decided_once}
use Rattle.sv_headline.proofs.unlawful.access_is_decided_once.Goals as goal

pub returns : goal.returns
returns g c = access_is_decided_once (steps_of g.S.Servlet.servlet_step g.F.Filter.filter_step g.L.Listener.listener_step)
