use Rattle.sv_headline.proofs.Sending.{is_sent}
use Rattle.sv_headline.proofs.laws.what_a_connection_is_sent_is_lawful.Goals as goal
use Rattle.sv_component.specs.Steps.{steps_of}

pub returns : goal.returns
returns g c =
    is_sent (steps_of g.S.Servlet.servlet_step g.F.Filter.filter_step g.L.Listener.listener_step) g.W.Words.draws g.T.Stream.makes g.C.Clock.tells
    c.every_run_is_lawful_until_memory_is_refused.ensures c.requests_enter_exactly_where_allowed.ensures c.a_connection_is_a_run.ensures
