use Rattle.std.proofs.lemmas.Result.{err_from_is_err_and}
use Rattle.sv_saved_sessions.proofs.Restored.{refused_all, restored, uncounted}
use Rattle.sv_saved_sessions.proofs.restoring.sessions.Goals as goal

pub returns-in_err-count : goal.returns-in_err-count
returns-in_err-count c =
    let p = err_from_is_err_and c.from_residual.result c.from_residual.ensures.1 in
    rw (p.1, p.2) (uncounted c.in_err-count.field-0.0 c.args.serial c.args.cursor.now c.number.new.self c.in_err-count.ensures)

pub returns-in_err-restore_items : goal.returns-in_err-restore_items
returns-in_err-restore_items c =
    let p = err_from_is_err_and c.from_residual-in_err-restore_items.result c.from_residual-in_err-restore_items.ensures.1 in
    rw (p.1, p.2) (refused_all c.in_err-restore_items.field-0.0 c.args.serial c.in_ok-count.count c.args.cursor.now c.number.new.self c.restore_items.new.cursor
    c.in-Some.sessions c.restore_items.new.sessions c.in-Some.ensures.1 c.in_ok-count.ensures c.in_err-restore_items.ensures)

pub returns : goal.returns
returns c =
    restored c.args.serial c.in_ok-count.count c.args.cursor.now c.number.new.self c.restore_items.new.cursor c.in-Some.sessions c.restore_items.new.sessions
    c.in-Some.ensures.1 c.in_ok-count.ensures c.in_ok-restore_items.ensures c.serial-serial.ensures.restorable
