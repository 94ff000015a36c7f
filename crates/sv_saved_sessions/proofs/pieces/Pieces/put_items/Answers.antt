use Rattle.std.proofs.Common.{Some, ◌≡◌}
use Rattle.std.specs.Prelude.{slice_get}
use Rattle.std.proofs.lemmas.Result.{err_from_is_err_and}
use Rattle.sv_saved_sessions.proofs.Passing.{all_passed, item_at, more_passed, next_failed, none_passed}
use Rattle.sv_saved_sessions.proofs.pieces.Pieces.put_items.Goals as goal

pub loop-item-init : goal.loop-item-init
loop-item-init g c = none_passed g.O.Stream.makes g.T.Written.bytes g.T.Written.fits c.args.items.now c.args.self.now c.args.sink.now

pub loop-item-preserved : goal.loop-item-preserved
loop-item-preserved g c =
    let is : slice_get c.args.items.now c.loop-item.item-index ≡ Some c.item-item.result = item_at c.args.items.now c.loop-item.item-index c.item-item.result c.loop-item-test.true c.item-item.is in
    more_passed g.O.Stream.makes g.T.Written.bytes g.T.Written.fits c.args.items.now c.args.self.now c.args.sink.now c.loop-item.item-index c.item-item.result
    c.loop-item.self c.put.new.self c.loop-item.sink c.put.new.sink is c.loop-item.invariant c.in_ok-put.ensures.passes c.in_ok-put.ensures.fits

pub returns-in_err-put-clause-passes : goal.returns-in_err-put-clause-passes
returns-in_err-put-clause-passes g c =
    let p = err_from_is_err_and c.from_residual.result c.from_residual.ensures.1 in
    let is : slice_get c.args.items.now c.loop-item.item-index ≡ Some c.item-item.result = item_at c.args.items.now c.loop-item.item-index c.item-item.result c.loop-item-test.true c.item-item.is in
    rw (p.1, p.2) (next_failed g.O.Stream.makes g.T.Written.bytes g.T.Written.fits c.args.items.now c.args.self.now c.args.sink.now c.loop-item.item-index c.item-item.result
    c.loop-item.self c.put.new.self c.loop-item.sink c.put.new.sink c.in_err-put.field-0.0 is c.loop-item.invariant c.in_err-put.ensures.passes)

pub returns-clause-passes : goal.returns-clause-passes
returns-clause-passes g c =
    (all_passed g.O.Stream.makes g.T.Written.bytes g.T.Written.fits c.args.items.now c.args.self.now c.args.sink.now c.loop-item.item-index c.loop-item.self c.loop-item.sink
    c.loop-item-test.false c.loop-item.invariant).0

pub returns-clause-fits : goal.returns-clause-fits
returns-clause-fits g c =
    (all_passed g.O.Stream.makes g.T.Written.bytes g.T.Written.fits c.args.items.now c.args.self.now c.args.sink.now c.loop-item.item-index c.loop-item.self c.loop-item.sink
    c.loop-item-test.false c.loop-item.invariant).1
