use Rattle.std.proofs.Common.{Err, ap, length, refl, subst}
use Rattle.std.proofs.lemmas.Result.{err_from_is_err_and}
use Rattle.sv_lifecycle.specs.declared.suspended_context.SuspendedContext.{SuspendedContext}
use Rattle.sv_saved_sessions.specs.File.{file_of}
use Rattle.sv_saved_sessions.specs.Saving.{WritesFront, WritesRest, suspended}
use Rattle.sv_saved_sessions.proofs.Passing.{as_front, never_too_many}
use Rattle.sv_saved_sessions.proofs.UpToLemmas.{refused_too, saved_as, whole_written}
use Rattle.sv_saved_sessions.proofs.file_writer.write_context.Goals as goal

pub returns-in_err-writer-clause-written : goal.returns-in_err-writer-clause-written
returns-in_err-writer-clause-written g c =
    let p = err_from_is_err_and c.from_residual.result c.from_residual.ensures.1 in
    rw (p.1, p.2) (subst (λ (context : SuspendedContext). WritesFront g.O.Stream.makes (file_of c.args.key.now c.args.moment context) c.args.sink.now (Err c.in_err-writer.field-0.0) c.begin.new.sink)
    c.of-head.ensures c.in_err-writer.ensures.begun)

pub returns-in_err-writer-clause-refused : goal.returns-in_err-writer-clause-refused
returns-in_err-writer-clause-refused g c =
    let p = err_from_is_err_and c.from_residual.result c.from_residual.ensures.1 in
    let users = ap (λ (context : SuspendedContext). length context.users) c.of-head.ensures in
    rw (p.1, p.2) (λ is. rw users at (c.in_err-writer.ensures.refused (refused_too c.in_err-writer.field-0.0 is)))

pub returns-in_err-go_on-clause-written : goal.returns-in_err-go_on-clause-written
returns-in_err-go_on-clause-written g c =
    let p = err_from_is_err_and c.from_residual-in_err-go_on.result c.from_residual-in_err-go_on.ensures.1 in
    let head = suspended c.of-head.result c.args.context.now.sessions in
    let fails = c.in_err-go_on.ensures c.args.key.now c.args.moment head 0 c.args.sink.now refl c.in_ok-writer.ensures.begun in
    let of_context = subst (λ (context : SuspendedContext). WritesRest g.O.Stream.makes (file_of c.args.key.now c.args.moment context) c.args.sink.now (Err c.in_err-go_on.field-0.0) c.go_on.new.sink)
    c.of-head.ensures fails in
    rw (p.1, p.2) (as_front g.O.Stream.makes (file_of c.args.key.now c.args.moment c.args.context.now) c.args.sink.now c.go_on.new.sink (Err c.in_err-go_on.field-0.0) of_context)

pub returns-in_err-go_on-clause-refused : goal.returns-in_err-go_on-clause-refused
returns-in_err-go_on-clause-refused g c =
    let p = err_from_is_err_and c.from_residual-in_err-go_on.result c.from_residual-in_err-go_on.ensures.1 in
    let head = suspended c.of-head.result c.args.context.now.sessions in
    let fails = c.in_err-go_on.ensures c.args.key.now c.args.moment head 0 c.args.sink.now refl c.in_ok-writer.ensures.begun in
    rw (p.1, p.2) (λ is. absurd (never_too_many g.O.Stream.makes (file_of c.args.key.now c.args.moment head) c.args.sink.now c.go_on.new.sink (Err c.in_err-go_on.field-0.0) fails is))

pub returns-clause-written : goal.returns-clause-written
returns-clause-written g c =
    let head = suspended c.of-head.result c.args.context.now.sessions in
    let both = whole_written g.O.Stream.makes c.args.key.now c.args.moment head c.args.sink.now c.count.result c.in_ok-go_on.field-0 c.in_ok-writer.writer c.go_on.new.self
    c.begin.new.sink c.go_on.new.sink c.finish.new.sink c.finish.result c.count.ensures c.in_ok-writer.ensures.begun c.in_ok-go_on.ensures c.finish.ensures in
    let of_context = subst (λ (context : SuspendedContext). WritesRest g.O.Stream.makes (file_of c.args.key.now c.args.moment context) c.args.sink.now c.finish.result c.finish.new.sink)
    c.of-head.ensures both.0 in
    as_front g.O.Stream.makes (file_of c.args.key.now c.args.moment c.args.context.now) c.args.sink.now c.finish.new.sink c.finish.result of_context

pub returns-clause-saved : goal.returns-clause-saved
returns-clause-saved g c =
    let head = suspended c.of-head.result c.args.context.now.sessions in
    let both = whole_written g.O.Stream.makes c.args.key.now c.args.moment head c.args.sink.now c.count.result c.in_ok-go_on.field-0 c.in_ok-writer.writer c.go_on.new.self
    c.begin.new.sink c.go_on.new.sink c.finish.new.sink c.finish.result c.count.ensures c.in_ok-writer.ensures.begun c.in_ok-go_on.ensures c.finish.ensures in
    saved_as c.args.moment head c.args.context.now c.finish.result c.of-head.ensures both.1

pub returns-clause-refused : goal.returns-clause-refused
returns-clause-refused g c =
    let head = suspended c.of-head.result c.args.context.now.sessions in
    let both = whole_written g.O.Stream.makes c.args.key.now c.args.moment head c.args.sink.now c.count.result c.in_ok-go_on.field-0 c.in_ok-writer.writer c.go_on.new.self
    c.begin.new.sink c.go_on.new.sink c.finish.new.sink c.finish.result c.count.ensures c.in_ok-writer.ensures.begun c.in_ok-go_on.ensures c.finish.ensures in
    λ is. absurd (never_too_many g.O.Stream.makes (file_of c.args.key.now c.args.moment head) c.args.sink.now c.finish.new.sink c.finish.result both.0 is)
