use Rattle.std.proofs.Common.{length}
use Rattle.std.specs.List.{flat_map}
use Rattle.std.proofs.lemmas.Result.{err_from_is_err_and}
use Rattle.sv_saved_sessions.specs.Encoding.{number_bytes}
use Rattle.sv_saved_sessions.proofs.Passing.{and_then, failed_before}
use Rattle.sv_saved_sessions.proofs.pieces.Pieces.put_list.Goals as goal

pub returns-in_err-put_number-clause-passes : goal.returns-in_err-put_number-clause-passes
returns-in_err-put_number-clause-passes g c =
    let p = err_from_is_err_and c.from_residual.result c.from_residual.ensures.1 in
    rw (p.1, p.2) (failed_before g.O.Stream.makes (number_bytes (length c.args.items.now)) (flat_map g.T.Written.bytes c.args.items.now) c.args.self.now c.put_number.new.self c.args.sink.now
    c.put_number.new.sink c.in_err-put_number.field-0.0 c.in_err-put_number.ensures.passes)

pub returns-clause-passes : goal.returns-clause-passes
returns-clause-passes g c =
    and_then g.O.Stream.makes (number_bytes (length c.args.items.now)) (flat_map g.T.Written.bytes c.args.items.now) c.args.self.now c.put_number.new.self c.put_items.new.self c.args.sink.now
    c.put_number.new.sink c.put_items.new.sink c.put_items.result c.in_ok-put_number.ensures.passes c.put_items.ensures.passes
