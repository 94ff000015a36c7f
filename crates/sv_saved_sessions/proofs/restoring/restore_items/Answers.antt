use Rattle.std.proofs.lemmas.Result.{err_from_is_err_and}
use Rattle.sv_saved_sessions.proofs.Restored.{all_restored, begun, one_more, refused_at, unfit}
use Rattle.sv_saved_sessions.proofs.restoring.restore_items.Goals as goal

pub loop-init : goal.loop-init
loop-init c = begun c.args.sessions.now c.args.count c.args.cursor.now c.requires

pub loop-preserved : goal.loop-preserved
loop-preserved c =
    one_more c.args.sessions.now c.args.count c.loop.counter c.args.cursor.now c.loop.sessions c.restore.new.sessions c.loop.cursor c.session.new.cursor
    c.in_ok-session.session c.loop.invariant c.loop-test.true c.in_ok-session.ensures (c.in_ok-restore.ensures.1)

pub returns-in_err-session : goal.returns-in_err-session
returns-in_err-session c =
    let p = err_from_is_err_and c.from_residual.result c.from_residual.ensures.1 in
    rw (p.1, p.2) (refused_at c.args.sessions.now c.args.count c.loop.counter c.args.cursor.now c.loop.sessions c.loop.sessions c.loop.cursor c.session.new.cursor
    c.in_err-session.field-0.0 c.loop.invariant c.loop-test.true c.in_err-session.ensures)

pub returns-in_err-restore : goal.returns-in_err-restore
returns-in_err-restore c =
    let p = err_from_is_err_and c.from_residual-in_err-restore.result c.from_residual-in_err-restore.ensures.1 in
    rw (p.1, p.2) (unfit c.args.sessions.now c.args.count c.loop.counter c.args.cursor.now c.loop.sessions c.restore.new.sessions c.loop.cursor c.session.new.cursor
    c.in_ok-session.session c.in_err-restore.field-0.0 c.loop.invariant c.loop-test.true c.in_ok-session.ensures c.in_err-restore.ensures)

pub returns : goal.returns
returns c = all_restored c.args.sessions.now c.args.count c.loop.counter c.args.cursor.now c.loop.sessions c.loop.cursor c.loop.invariant c.loop-test.false
