use Rattle.std.proofs.Common.{Err, Ok, ℕ, ◌++◌, subst}
use Rattle.std.specs.List.{flat_map}
use Rattle.std.proofs.lemmas.Result.{err_from_is_err_and}
use Rattle.sv_saved_sessions.specs.Content.{user_bytes}
use Rattle.sv_saved_sessions.specs.Encoding.{number_bytes}
use Rattle.sv_saved_sessions.specs.Saving.{Passes}
use Rattle.sv_saved_sessions.proofs.Passing.{and_then, failed_before}
use Rattle.sv_saved_sessions.proofs.writing.put_users.Goals as goal

pub returns-in_err-put_number-clause-passes : goal.returns-in_err-put_number-clause-passes
returns-in_err-put_number-clause-passes g c =
    let p = err_from_is_err_and c.from_residual.result c.from_residual.ensures.1 in
    let items = flat_map user_bytes c.args.users.now in
    let fails = failed_before g.O.Stream.makes (number_bytes c.args.count) items c.args.pieces.now c.put_number.new.self c.args.sink.now c.put_number.new.sink
    c.in_err-put_number.field-0.0 c.in_err-put_number.ensures.passes in
    rw (p.1, p.2) (subst (λ (n : ℕ). Passes g.O.Stream.makes (number_bytes n ++ items) c.args.pieces.now c.args.sink.now (Err c.in_err-put_number.field-0.0) c.put_number.new.self c.put_number.new.sink) c.requires fails)

pub returns-in_err-put_accounts-clause-passes : goal.returns-in_err-put_accounts-clause-passes
returns-in_err-put_accounts-clause-passes g c =
    let p = err_from_is_err_and c.from_residual-in_err-put_accounts.result c.from_residual-in_err-put_accounts.ensures.1 in
    let items = flat_map user_bytes c.args.users.now in
    let fails = and_then g.O.Stream.makes (number_bytes c.args.count) items c.args.pieces.now c.put_number.new.self c.put_accounts.new.pieces c.args.sink.now c.put_number.new.sink c.put_accounts.new.sink
    (Err c.in_err-put_accounts.field-0.0) c.in_ok-put_number.ensures.passes c.in_err-put_accounts.ensures.passes in
    rw (p.1, p.2) (subst (λ (n : ℕ). Passes g.O.Stream.makes (number_bytes n ++ items) c.args.pieces.now c.args.sink.now (Err c.in_err-put_accounts.field-0.0) c.put_accounts.new.pieces c.put_accounts.new.sink) c.requires fails)

pub returns-clause-passes : goal.returns-clause-passes
returns-clause-passes g c =
    let items = flat_map user_bytes c.args.users.now in
    let both = and_then g.O.Stream.makes (number_bytes c.args.count) items c.args.pieces.now c.put_number.new.self c.put_accounts.new.pieces c.args.sink.now c.put_number.new.sink c.put_accounts.new.sink
    (Ok tt) c.in_ok-put_number.ensures.passes c.in_ok-put_accounts.ensures.passes in
    subst (λ (n : ℕ). Passes g.O.Stream.makes (number_bytes n ++ items) c.args.pieces.now c.args.sink.now (Ok tt) c.put_accounts.new.pieces c.put_accounts.new.sink) c.requires both
