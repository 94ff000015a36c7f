use Rattle.sv_context.proofs.Expiries.{expires_nothing, nothing_expires}
use Rattle.sv_context.proofs.laws.an_expiry_of_none_is_nothing.Goals as goal
use Rattle.sv_component.specs.Steps.{steps_of}

pub returns : goal.returns
returns g c = λ moment before noted fresh.
    let law = c.expiry_ends_exactly_the_expired_sessions.ensures.none in (
      expires_nothing (steps_of g.S.Servlet.servlet_step g.F.Filter.filter_step g.L.Listener.listener_step) law moment before noted fresh,
      nothing_expires (steps_of g.S.Servlet.servlet_step g.F.Filter.filter_step g.L.Listener.listener_step) law moment before noted fresh,
    )
