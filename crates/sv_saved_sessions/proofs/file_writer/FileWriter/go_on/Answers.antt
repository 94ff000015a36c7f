use Rattle.std.proofs.Common.{ap, arith, sym}
use Rattle.std.proofs.lemmas.Result.{err_from_is_err_and}
use Rattle.sv_session.specs.Store.{Session}
use Rattle.sv_saved_sessions.proofs.UpToLemmas.{all_kept, none_copied, none_kept, one_kept, one_not_kept, part_kept}
use Rattle.sv_saved_sessions.proofs.file_writer.FileWriter.go_on.Goals as goal

pub loop-init : goal.loop-init
loop-init g c = (omega arith, none_kept g.O.Stream.makes c.args.sessions.now.store c.args.count c.args.self.now c.args.sink.now)

pub loop-preserved : goal.loop-preserved
loop-preserved g c = (
  omega (arith, c.loop-test.true),
  one_kept g.O.Stream.makes c.args.sessions.now.store c.args.count c.args.self.now c.args.sink.now c.loop.counter c.in-Some.session.now c.loop.self
      (record { pieces = c.put.new.self; last = c.session.inside.number }) c.loop.sink c.put.new.sink c.serial-order.ensures.order c.loop.invariant.1
      (sym c.in-Some.ensures) c.in_ok-put.ensures.passes c.in_ok-put.ensures.fits (ap (λ (session : Session). session.number) c.session.view_is),
)

pub returns-in_default : goal.returns-in_default
returns-in_default g c =
    all_kept g.O.Stream.makes c.args.sessions.now.store c.args.count c.args.self.now c.args.sink.now c.loop.counter c.loop.self c.loop.sink c.loop.invariant.0 c.loop.invariant.1 c.in_default.ensures

pub returns-in_err-put : goal.returns-in_err-put
returns-in_err-put g c =
    let p = err_from_is_err_and c.from_residual.result c.from_residual.ensures.1 in
    rw (p.1, p.2) (one_not_kept g.O.Stream.makes c.args.sessions.now.store c.args.count c.args.self.now c.args.sink.now c.loop.counter c.in-Some.session.now c.loop.self
    c.loop.self c.put.new.self c.loop.sink c.put.new.sink c.in_err-put.field-0.0 c.loop.invariant.1 (sym c.in-Some.ensures) c.in_err-put.ensures.passes)

pub returns : goal.returns
returns g c =
    part_kept g.O.Stream.makes c.args.sessions.now.store c.args.count c.args.self.now c.args.sink.now c.loop.counter c.loop.self c.loop.sink c.is_none.result c.loop.invariant.0 c.loop-test.false
    c.loop.invariant.1 (none_copied c.is_none.result c.after-2.result _ c.after-2.ensures c.is_none.ensures)
