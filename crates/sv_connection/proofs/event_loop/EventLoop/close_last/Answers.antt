use Rattle.std.proofs.Common.{inl, refl}
use Rattle.sv_connection.specs.Closing.{last_closing}
use Rattle.sv_connection.proofs.Driving.{leaves_of}
use Rattle.sv_connection.proofs.event_loop.EventLoop.close_last.Goals as goal

pub returns : goal.returns
returns g c =
    inl (
      c.in-Some.connection,
      leaves_of g.P.Peer.ways g.R.EventHandler.steps g.R.EventHandler.awaited g.C.Clock.tells g.N.Poller.polls c.args.number c.in-Some.connection
          c.last_closing-closing.result (last_closing c.in-Some.connection) c.into_stream.result c.args.self.now c.close.new.self c.remove.new.self
          (c.in-Some.ensures.below refl) c.in-Some.ensures.gives c.last_closing-closing.ensures c.into_stream.ensures c.close.ensures c.remove.ensures.forgets c.in-Some.ensures.fewer c.remove.ensures.within,
    )
