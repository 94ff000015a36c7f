use Rattle.sv_connection.proofs.LoopRunning.{an_event_loop_is_a_run}
use Rattle.sv_connection.proofs.loop_laws.an_event_loop_is_a_run.Goals as goal
use Rattle.sv_run.specs.Contexts.{theory_of}

pub returns : goal.returns
returns g c =
    an_event_loop_is_a_run g.N.Peer.Peer.ways g.R.EventHandler.steps g.R.EventHandler.awaited g.C.Clock.tells g.N.Poller.polls
    (theory_of g.X.HasContextPath.path_of g.X.Context.conduct g.W.Words.draws)
