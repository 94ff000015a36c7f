use Rattle.std.proofs.Common.{refl}
use Rattle.sv_saved_sessions.proofs.Passing.{appended}
use Rattle.sv_saved_sessions.proofs.pieces.Pieces.put.Goals as goal

pub returns-clause-passes : goal.returns-clause-passes
returns-clause-passes g c =
    appended g.O.Stream.makes (g.T.Written.bytes c.args.value.now) c.args.self.now (record c.args.self.now { buffer = c.append.new.out }) c.flush_if_full.new.self c.args.sink.now
    c.flush_if_full.new.sink c.flush_if_full.result c.in-Ok.ensures.written refl c.flush_if_full.ensures
