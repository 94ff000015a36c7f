use Rattle.std.proofs.Common.{◌++◌, refl}
use Rattle.sv_saved_sessions.specs.Content.{magic_line}
use Rattle.sv_saved_sessions.specs.Encoding.{number_bytes, text_bytes}
use Rattle.sv_saved_sessions.proofs.Passing.{appended}
use Rattle.sv_saved_sessions.proofs.writing.put_begin.Goals as goal

pub returns-clause-passes : goal.returns-clause-passes
returns-clause-passes g c =
    appended g.O.Stream.makes (magic_line ++ (text_bytes c.args.path.now ++ number_bytes c.args.moment)) c.args.pieces.now (record c.args.pieces.now { buffer = c.append_begin.new.out })
    c.flush_if_full.new.self c.args.sink.now c.flush_if_full.new.sink c.flush_if_full.result c.in-Ok.ensures.written refl c.flush_if_full.ensures
