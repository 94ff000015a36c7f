use Rattle.std.proofs.Common.{Err, Ok, length}
use Rattle.std.proofs.lemmas.Result.{err_from_is_err_and}
use Rattle.sv_saved_sessions.specs.Encoding.{number_bytes}
use Rattle.sv_saved_sessions.proofs.Passing.{and_then, failed_before, passes_as}
use Rattle.sv_saved_sessions.proofs.writing.put_numbers.Goals as goal

pub returns-in_err-put_number-clause-passes : goal.returns-in_err-put_number-clause-passes
returns-in_err-put_number-clause-passes g c =
    let step0 = number_bytes c.args.sessions.now.store.serial in
    let step1 = number_bytes (length c.args.sessions.now.store.sessions) in
    let p = err_from_is_err_and c.from_residual.result c.from_residual.ensures.1 in
    rw (p.1, p.2) (failed_before g.O.Stream.makes step0 step1 c.args.pieces.now c.put_number.new.self c.args.sink.now c.put_number.new.sink c.in_err-put_number.field-0.0 (passes_as g.O.Stream.makes number_bytes c.serial.result c.args.sessions.now.store.serial c.args.pieces.now c.put_number.new.self c.args.sink.now c.put_number.new.sink (Err c.in_err-put_number.field-0.0) c.serial.ensures.value c.in_err-put_number.ensures.passes))

pub returns-in_err-put_number-2-clause-passes : goal.returns-in_err-put_number-2-clause-passes
returns-in_err-put_number-2-clause-passes g c =
    let step0 = number_bytes c.args.sessions.now.store.serial in
    let step1 = number_bytes (length c.args.sessions.now.store.sessions) in
    let p = err_from_is_err_and c.from_residual-in_err-put_number-2.result c.from_residual-in_err-put_number-2.ensures.1 in
    rw (p.1, p.2) (and_then g.O.Stream.makes step0 step1 c.args.pieces.now c.put_number.new.self c.put_number-2.new.self c.args.sink.now c.put_number.new.sink c.put_number-2.new.sink (Err c.in_err-put_number-2.field-0.0)
    (passes_as g.O.Stream.makes number_bytes c.serial.result c.args.sessions.now.store.serial c.args.pieces.now c.put_number.new.self c.args.sink.now c.put_number.new.sink (Ok tt) c.serial.ensures.value c.in_ok-put_number.ensures.passes)
    (passes_as g.O.Stream.makes number_bytes c.count.result (length c.args.sessions.now.store.sessions) c.put_number.new.self c.put_number-2.new.self c.put_number.new.sink c.put_number-2.new.sink (Err c.in_err-put_number-2.field-0.0) c.count.ensures c.in_err-put_number-2.ensures.passes))

pub returns-clause-passes : goal.returns-clause-passes
returns-clause-passes g c =
    let step0 = number_bytes c.args.sessions.now.store.serial in
    let step1 = number_bytes (length c.args.sessions.now.store.sessions) in
    and_then g.O.Stream.makes step0 step1 c.args.pieces.now c.put_number.new.self c.put_number-2.new.self c.args.sink.now c.put_number.new.sink c.put_number-2.new.sink (Ok tt)
    (passes_as g.O.Stream.makes number_bytes c.serial.result c.args.sessions.now.store.serial c.args.pieces.now c.put_number.new.self c.args.sink.now c.put_number.new.sink (Ok tt) c.serial.ensures.value c.in_ok-put_number.ensures.passes)
    (passes_as g.O.Stream.makes number_bytes c.count.result (length c.args.sessions.now.store.sessions) c.put_number.new.self c.put_number-2.new.self c.put_number.new.sink c.put_number-2.new.sink (Ok tt) c.count.ensures c.in_ok-put_number-2.ensures.passes)
