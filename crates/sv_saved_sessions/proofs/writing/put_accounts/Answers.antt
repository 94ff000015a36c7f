use Rattle.std.proofs.Common.{Err, Ok, Option, subst, arith}
use Rattle.std.specs.Prelude.{IfSome}
use Rattle.std.proofs.lemmas.Result.{err_from_is_err_and}
use Rattle.sv_realm.specs.declared.account.User.{User}
use Rattle.sv_saved_sessions.specs.Content.{user_bytes}
use Rattle.sv_saved_sessions.specs.Saved.{IsUser}
use Rattle.sv_saved_sessions.specs.Saving.{Passes}
use Rattle.sv_saved_sessions.proofs.After.{some_item}
use Rattle.sv_saved_sessions.proofs.Passing.{more_passed, next_failed}
use Rattle.sv_saved_sessions.proofs.writing.put_accounts.Goals as goal

pub loop-number-preserved : goal.loop-number-preserved
loop-number-preserved g c =
    let user = some_item c.args.users.now c.loop-number.number (omega (arith, c.loop-number-test.true, c.requires)) in
    let passes = subst (λ (o : Option User). IfSome o (λ u. Passes g.O.Stream.makes (user_bytes u) c.loop-number.pieces c.loop-number.sink (Ok tt) c.put_user.new.pieces c.put_user.new.sink)) user.1 c.in_ok-put_user.ensures.passes in
    let fits = subst (λ (o : Option User). IfSome o IsUser) user.1 c.in_ok-put_user.ensures.fits in
    more_passed g.O.Stream.makes user_bytes IsUser c.args.users.now c.args.pieces.now c.args.sink.now c.loop-number.number user.0
    c.loop-number.pieces c.put_user.new.pieces c.loop-number.sink c.put_user.new.sink user.1 c.loop-number.invariant passes fits

pub returns-in_err-put_user-clause-passes : goal.returns-in_err-put_user-clause-passes
returns-in_err-put_user-clause-passes g c =
    let p = err_from_is_err_and c.from_residual.result c.from_residual.ensures.1 in
    let user = some_item c.args.users.now c.loop-number.number (omega (arith, c.loop-number-test.true, c.requires)) in
    let fails = subst (λ (o : Option User). IfSome o (λ u. Passes g.O.Stream.makes (user_bytes u) c.loop-number.pieces c.loop-number.sink (Err c.in_err-put_user.field-0.0) c.put_user.new.pieces c.put_user.new.sink)) user.1 c.in_err-put_user.ensures.passes in
    rw (p.1, p.2) (next_failed g.O.Stream.makes user_bytes IsUser c.args.users.now c.args.pieces.now c.args.sink.now c.loop-number.number user.0
    c.loop-number.pieces c.put_user.new.pieces c.loop-number.sink c.put_user.new.sink c.in_err-put_user.field-0.0 user.1 c.loop-number.invariant fails)
