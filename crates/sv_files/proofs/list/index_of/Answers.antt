use Rattle.std.proofs.Common.{◌≡◌, length, take, arith, sym, ◌∙◌, length-take}
use Rattle.std.proofs.lemmas.Bool.{not-false, not-true}
use Rattle.sv_files.proofs.Places.{index-more, repeats-at, repeats-more}
use Rattle.sv_files.proofs.list.index_of.Goals as goal

pub returns-then-not-branch : goal.returns-then-not-branch
returns-then-not-branch c =
    let found = not-false _ (sym (c.in_ok-enter.ensures.new (take c.loop-place.place c.args.files.now) c.loop-place.invariant.0) ∙ c.if-not-branch.true) in
    repeats-at c.args.files.now c.index-files-place.result c.loop-place.place c.loop-place-test.true c.index-files-place.is found

pub loop-place-preserved : goal.loop-place-preserved
loop-place-preserved c =
    let files = c.args.files.now in
    let before = take c.loop-place.place files in
    let last : c.loop-place.place ≡ length before = omega (arith, length-take c.loop-place.place files) in
    let unknown = not-true _ (sym (c.in_ok-enter.ensures.new before c.loop-place.invariant.0) ∙ c.if-not-branch.false) in
    let entered = rw c.if-not-branch.false at (c.in_ok-enter.ensures.entered before c.loop-place.invariant.0 last) in
    (index-more c.enter.new.self files c.index-files-place.result c.loop-place.place c.loop-place-test.true c.index-files-place.is entered, repeats-more files c.index-files-place.result c.loop-place.place c.loop-place-test.true c.index-files-place.is c.loop-place.invariant.1 unknown)
