use Rattle.std.proofs.Common.{Err, Ok}
use Rattle.std.proofs.lemmas.Result.{err_from_is_err_and}
use Rattle.sv_saved_sessions.proofs.Passing.{code_follows, finishing_failed}
use Rattle.sv_saved_sessions.proofs.pieces.Pieces.finish.Goals as goal

pub returns-in_err-flush : goal.returns-in_err-flush
returns-in_err-flush g c = λ key message holds.
    let p = err_from_is_err_and c.from_residual.result c.from_residual.ensures.1 in
    rw (p.1, p.2) (finishing_failed g.O.Stream.makes key message c.args.self c.flush.new.self c.args.sink.now c.flush.new.sink c.in_err-flush.field-0.0 c.in_err-flush.ensures.passes)

pub returns-in_default : goal.returns-in_default
returns-in_default g c = λ key message holds. (
  c.in_default.field-0,
  code_follows g.O.Stream.makes key message c.finalize-code.result c.args.self c.flush.new.self c.args.sink.now c.flush.new.sink c.write_all.new.sink (Err c.in_default.field-0)
      c.in_ok-flush.ensures.passes c.in_ok-flush.ensures.empty c.finalize-code.ensures c.in_default.ensures holds,
)

pub returns : goal.returns
returns g c = λ key message holds.
    code_follows g.O.Stream.makes key message c.finalize-code.result c.args.self c.flush.new.self c.args.sink.now c.flush.new.sink c.write_all.new.sink (Ok tt)
    c.in_ok-flush.ensures.passes c.in_ok-flush.ensures.empty c.finalize-code.ensures c.in-Ok.ensures holds
