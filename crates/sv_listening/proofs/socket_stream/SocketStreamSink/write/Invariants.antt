use Rattle.std.specs.Io.KnownBytes.{Keeps}
use Rattle.sv_listening.proofs.socket_stream.SocketStreamSink.write.Given as goal

abbrev pub invariant-loop : goal.invariant-loop
invariant-loop g l = Keeps (g.T.Write.contents l.fn.self.stream) (g.T.Write.contents l.self.stream)
