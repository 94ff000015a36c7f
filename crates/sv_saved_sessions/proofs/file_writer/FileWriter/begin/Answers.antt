use Rattle.std.proofs.Common.{Err}
use Rattle.std.proofs.lemmas.Result.{err_from_is_err_and}
use Rattle.sv_saved_sessions.specs.File.{file_of}
use Rattle.sv_saved_sessions.specs.Saving.{suspended}
use Rattle.sv_saved_sessions.proofs.Passing.{as_front, never_too_many}
use Rattle.sv_saved_sessions.proofs.UpToLemmas.{begun, not_begun, refused_too}
use Rattle.sv_saved_sessions.proofs.file_writer.FileWriter.begin.Goals as goal

pub returns-in_err-put_head-clause-begun : goal.returns-in_err-put_head-clause-begun
returns-in_err-put_head-clause-begun g c =
    let p = err_from_is_err_and c.from_residual.result c.from_residual.ensures.1 in
    let fails = not_begun g.O.Stream.makes c.args.key.now c.args.moment c.args.head c.args.sessions.now c.new-pieces.result c.put_head.new.pieces c.args.sink.now c.put_head.new.sink
    c.in_err-put_head.field-0.0 c.new-pieces.ensures.buffer c.in_err-put_head.ensures.passes in
    rw (p.1, p.2) (as_front g.O.Stream.makes (file_of c.args.key.now c.args.moment (suspended c.args.head c.args.sessions.now)) c.args.sink.now c.put_head.new.sink (Err c.in_err-put_head.field-0.0) fails)

pub returns-in_err-put_head-clause-refused : goal.returns-in_err-put_head-clause-refused
returns-in_err-put_head-clause-refused g c =
    let p = err_from_is_err_and c.from_residual.result c.from_residual.ensures.1 in
    let fails = not_begun g.O.Stream.makes c.args.key.now c.args.moment c.args.head c.args.sessions.now c.new-pieces.result c.put_head.new.pieces c.args.sink.now c.put_head.new.sink
    c.in_err-put_head.field-0.0 c.new-pieces.ensures.buffer c.in_err-put_head.ensures.passes in
    rw (p.1, p.2) (λ is. absurd (never_too_many g.O.Stream.makes (file_of c.args.key.now c.args.moment (suspended c.args.head c.args.sessions.now)) c.args.sink.now c.put_head.new.sink
    (Err c.in_err-put_head.field-0.0) fails (refused_too c.in_err-put_head.field-0.0 is)))

pub returns-clause-begun : goal.returns-clause-begun
returns-clause-begun g c =
    begun g.O.Stream.makes c.args.key.now c.args.moment c.args.head c.args.sessions.now c.new-pieces.result c.put_head.new.pieces c.args.sink.now c.put_head.new.sink
    c.serial-order.ensures.order c.new-pieces.ensures.buffer c.new-pieces.ensures.hmac c.in_ok-put_head.ensures.passes c.in_ok-put_head.ensures.saved
