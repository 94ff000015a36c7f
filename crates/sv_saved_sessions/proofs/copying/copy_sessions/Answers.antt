use Rattle.std.proofs.Common.{◌∙◌, ◌+◌, ℕ, ap, subst, sym}
use Rattle.std.proofs.lemmas.Result.{err_from_is_err_and}
use Rattle.sv_session.specs.Restoring.{with_used}
use Rattle.sv_session.specs.Store.{Session}
use Rattle.sv_saved_sessions.proofs.CopyLemmas.{IsCopiedUpTo, all_copied, cannot_follow, copied_more, copying_begun, none_is_left, part_copied, some_is_left, unfit_too}
use Rattle.sv_saved_sessions.proofs.copying.copy_sessions.Goals as goal

pub loop-init : goal.loop-init
loop-init c =
    copying_begun c.args.after c.args.count c.args.store.now.store c.args.copies.now c.use_serials.new.self c.serial.ensures.order
    (c.use_serials.ensures ∙ ap (λ (serial : ℕ). record c.args.copies.now { store = with_used serial c.args.copies.now.store }) c.serial.ensures.value)

pub loop-preserved : goal.loop-preserved
loop-preserved c =
    subst (λ (session : Session). IsCopiedUpTo c.args.after c.args.count c.args.store.now.store c.args.copies.now (c.loop.counter + 1) session.number c.copy_session.new.copies) (sym c.session.view_is)
    (copied_more c.args.after c.args.count c.args.store.now.store c.args.copies.now c.loop.counter c.loop.last c.in-Some.session.now c.loop.copies c.copy_session.new.copies
    c.serial.ensures.order c.loop-test.true c.loop.invariant (sym c.in-Some.ensures) c.in_ok-copy_session.ensures.copied)

pub returns-in_default-clause-copied : goal.returns-in_default-clause-copied
returns-in_default-clause-copied c =
    (all_copied c.args.after c.args.count c.args.store.now.store c.args.copies.now c.loop.counter c.loop.last c.loop.copies c.loop.invariant (sym c.in_default.ensures)).0

pub returns-in_default-clause-next : goal.returns-in_default-clause-next
returns-in_default-clause-next c =
    (all_copied c.args.after c.args.count c.args.store.now.store c.args.copies.now c.loop.counter c.loop.last c.loop.copies c.loop.invariant (sym c.in_default.ensures)).1

pub returns-in_err-copy_session-clause-unfit : goal.returns-in_err-copy_session-clause-unfit
returns-in_err-copy_session-clause-unfit c =
    let p = err_from_is_err_and c.from_residual.result c.from_residual.ensures.1 in
    rw (p.1, p.2) (λ unfit can. cannot_follow c.args.after c.args.count c.args.store.now.store c.args.copies.now c.loop.counter c.loop.last c.in-Some.session.now c.loop.copies
    c.loop-test.true c.loop.invariant (sym c.in-Some.ensures) (λ follows. c.in_err-copy_session.ensures.unfit (unfit_too c.in_err-copy_session.field-0.0 unfit) follows) can)

pub returns-then-is_some-clause-copied : goal.returns-then-is_some-clause-copied
returns-then-is_some-clause-copied c =
    (part_copied c.args.after c.args.count c.args.store.now.store c.args.copies.now c.loop.counter c.loop.last c.loop.copies c.loop-test.false c.loop.invariant).0

pub returns-then-is_some-clause-next : goal.returns-then-is_some-clause-next
returns-then-is_some-clause-next c =
    some_is_left c.loop.last c.after-2.result _ c.after-2.ensures (sym c.is_some.ensures ∙ c.if-is_some.true)
    ∙ (part_copied c.args.after c.args.count c.args.store.now.store c.args.copies.now c.loop.counter c.loop.last c.loop.copies c.loop-test.false c.loop.invariant).1

pub returns-else-is_some-clause-copied : goal.returns-else-is_some-clause-copied
returns-else-is_some-clause-copied c =
    (part_copied c.args.after c.args.count c.args.store.now.store c.args.copies.now c.loop.counter c.loop.last c.loop.copies c.loop-test.false c.loop.invariant).0

pub returns-else-is_some-clause-next : goal.returns-else-is_some-clause-next
returns-else-is_some-clause-next c =
    none_is_left c.loop.last c.after-2.result _ c.after-2.ensures (sym c.is_some.ensures ∙ c.if-is_some.false)
    ∙ (part_copied c.args.after c.args.count c.args.store.now.store c.args.copies.now c.loop.counter c.loop.last c.loop.copies c.loop-test.false c.loop.invariant).1
