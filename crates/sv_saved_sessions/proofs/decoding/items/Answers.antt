use Rattle.std.proofs.lemmas.Result.{err_from_is_err_and}
use Rattle.sv_saved_sessions.specs.Reading.{items_at}
use Rattle.sv_saved_sessions.proofs.Loop.{begins, goes_on, ends, is_done}
use Rattle.sv_saved_sessions.proofs.decoding.items.Goals as goal

pub loop-init : goal.loop-init
loop-init g c = rw c.new-items.ensures.items (begins g.T.Saved.at c.args.count c.args.cursor.now)

pub loop-preserved : goal.loop-preserved
loop-preserved g c =
    rw c.in-Ok.ensures.items
    (goes_on g.T.Saved.at c.loop.items.items c.args.count c.loop.counter c.loop.cursor c.in_ok-item.item c.read.new.cursor
    (items_at g.T.Saved.at c.args.count c.args.cursor.now) c.loop-test.true c.in_ok-item.ensures c.loop.invariant)

pub returns-in_err-item : goal.returns-in_err-item
returns-in_err-item g c =
    let p = err_from_is_err_and c.from_residual.result c.from_residual.ensures.1 in
    rw (p.1, p.2) (ends c.in_err-item.field-0.0 g.T.Saved.at c.loop.items.items c.args.count c.loop.counter c.loop.cursor
    (items_at g.T.Saved.at c.args.count c.args.cursor.now) c.loop-test.true c.in_err-item.ensures c.loop.invariant)

pub returns : goal.returns
returns g c =
    rw c.from_vec.ensures
    (is_done g.T.Saved.at c.loop.items.items c.args.count c.loop.counter c.loop.cursor (items_at g.T.Saved.at c.args.count c.args.cursor.now) c.loop-test.false c.loop.invariant)
