use Rattle.std.proofs.Common.{◌≡◌, length}
use Rattle.std.specs.Io.KnownBytes.{Keeps}
use Rattle.sv_listening.proofs.socket_stream.SocketStreamSource.read.Given as goal

abbrev pub invariant-loop : goal.invariant-loop
invariant-loop g l = Keeps (g.T.Read.remaining l.fn.self.stream) (g.T.Read.remaining l.self.stream) × (length l.buffer ≡ length l.fn.buffer)
