use Rattle.std.proofs.Common.{Option, refl, subst}
use Rattle.std.specs.Prelude.{IfSome}
use Rattle.sv_realm.specs.Account.{user_of}
use Rattle.sv_realm.specs.declared.account.User.{User}
use Rattle.sv_saved_sessions.specs.Content.{user_bytes}
use Rattle.sv_saved_sessions.specs.Saving.{Passes}
use Rattle.sv_saved_sessions.proofs.Passing.{appended}
use Rattle.sv_saved_sessions.proofs.writing.put_user.Goals as goal

pub returns-clause-passes : goal.returns-clause-passes
returns-clause-passes g c =
    subst (λ (user : Option User). IfSome user (λ u. Passes g.O.Stream.makes (user_bytes u) c.args.pieces.now c.args.sink.now c.flush_if_full.result c.flush_if_full.new.self c.flush_if_full.new.sink))
    c.in-Some.ensures
    (appended g.O.Stream.makes (user_bytes (user_of c.in-Some.account.now)) c.args.pieces.now (record c.args.pieces.now { buffer = c.append_account.new.out })
    c.flush_if_full.new.self c.args.sink.now c.flush_if_full.new.sink c.flush_if_full.result c.in-Ok.ensures.written refl c.flush_if_full.ensures)
