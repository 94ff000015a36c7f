use Rattle.std.proofs.Common.{◌≡◌, [], length, refl, sym, arith}
use Rattle.std.proofs.lemmas.Bool.{eqb-false, eqb-true}
use Rattle.std.proofs.lemmas.List.{nil_from_length}
use Rattle.sv_streams.proofs.CallLemmas.{failed_at, piece_more, written}
use Rattle.sv_streams.proofs.stream.write_all.Goals as goal

pub loop-rest-init : goal.loop-rest-init
loop-rest-init g c = ([], refl, refl)

pub loop-rest-preserved : goal.loop-rest-preserved
loop-rest-preserved g c =
    piece_more g.W.Stream.makes c.args.sink.now c.loop-rest.sink c.write.new.self c.loop-rest.invariant.0 c.args.bytes.now c.loop-rest.rest.now _ c.in-Ok.count
    c.loop-rest.invariant.1 c.loop-rest.invariant.2 c.in-Ok.ensures.made c.split_at.ensures.back

pub returns-in-Err : goal.returns-in-Err
returns-in-Err g c =
    let some : length c.loop-rest.rest.now ≡ 0 → ⊥ = eqb-false _ _ (sym c.loop-rest-test.ensures) in
    failed_at g.W.Stream.makes c.args.sink.now c.loop-rest.sink c.write.new.self c.loop-rest.invariant.0 c.args.bytes.now c.loop-rest.rest.now
    c.loop-rest.invariant.1 c.loop-rest.invariant.2 c.in-Err.ensures.made (omega arith)

pub returns : goal.returns
returns g c =
    written g.W.Stream.makes c.args.sink.now c.loop-rest.sink c.loop-rest.invariant.0 c.args.bytes.now c.loop-rest.rest.now
    c.loop-rest.invariant.1 c.loop-rest.invariant.2 (nil_from_length c.loop-rest.rest.now (eqb-true _ _ (sym c.loop-rest-test.ensures)))
