use Rattle.sv_headline.proofs.Looping.{is_lawful}
use Rattle.sv_headline.proofs.laws.what_an_event_loop_does_is_lawful.Goals as goal
use Rattle.sv_component.specs.Steps.{steps_of}

pub returns : goal.returns
returns g c =
    is_lawful (steps_of g.S.Servlet.servlet_step g.F.Filter.filter_step g.L.Listener.listener_step) g.W.Words.draws g.N.Peer.Peer.ways g.R.EventHandler.steps
    g.C.Clock.tells g.N.Poller.polls g.R.EventHandler.awaited
    c.every_run_is_lawful_until_memory_is_refused.ensures c.requests_enter_exactly_where_allowed.ensures c.an_event_loop_is_a_run.ensures
