use Rattle.std.proofs.Common.{◌<◌, ◌+◌, length, take, drop, slice_index_or, refl, sym, ap, ◌∙◌, subst, arith}
use Rattle.sv_run.proofs.Adding.{adds_closes, adds_nothing, adds_on}
use Rattle.sv_run.proofs.HostBreaking.{broken_at, took_next}
use Rattle.sv_run.proofs.Contexts.{if_err, moves_join, moves_none}
use Rattle.sv_run.proofs.Iterating.{are_split, comes_first, one_more, stays_left}
use Rattle.sv_run.proofs.HostTaking.{TakesOn, goes_on, stops}
use Rattle.sv_run.specs.Contexts.{theory_of}
use Rattle.sv_run.specs.Effect.{joined, nothing}
use Rattle.sv_run.specs.Items.{Takes}
use Rattle.sv_run.specs.State.{world_of}
use Rattle.sv_run.proofs.items.take_items.Goals as goal

pub loop-item-init : goal.loop-item-init
loop-item-init g c =
    record {
      left = c.deref_mut-item-items.ensures.value;
      takes = (
        nothing,
        λ later after takes. takes,
        adds_nothing g.row.C.Denot c.args.output.now,
        (refl, refl),
      );
      stays = c.requires;
      moves = moves_none g.C.Context.conduct g.met.C.Context.is_motion c.args.contexts.now;
    }

pub loop-item-preserved : goal.loop-item-preserved
loop-item-preserved g c =
    let theory = theory_of g.C.HasContextPath.path_of g.C.Context.conduct g.W.Words.draws in
    let taken = c.in_ok-take_item.ensures.takes in
    let kept = c.loop-item.invariant.takes in
    let start = world_of c.args.contexts.now c.args.words.now in
    let reached = world_of c.loop-item.contexts c.loop-item.words in
    let next = world_of c.take_item.new.contexts c.take_item.new.words in
    let all = c.args.items.now.items in
    let items = c.loop-item.item-items in
    let at = c.loop-item.item-index in
    let default = c.item-item.result in
    let one = slice_index_or items at default in
    let left = c.loop-item.invariant.left in
    let below : at < length items = omega (arith, c.loop-item-test.true, c.loop-item.auto.item-items) in
    let rest = drop (at + 1) all in
    let is = comes_first all items at left default below in
    let within : at < length all = omega (arith, c.loop-item-test.true, ap length c.deref_mut-item-items.ensures.value) in
    let stays = sym (adds_closes c.loop-item.output c.take_item.new.output taken.0 taken.2 c.loop-item.invariant.stays) ∙ c.if-output.false in record {
      left = stays_left all items at left c.take_item.new.item;
      takes = (
        joined kept.0 taken.0,
        goes_on theory c.args.date.now c.args.items.now.items start reached next kept.0 taken.0 one rest stays
            (subst (TakesOn theory c.args.date.now c.args.items.now.items start kept.0 reached) is kept.1) taken.1,
        adds_on c.args.output.now c.loop-item.output c.take_item.new.output kept.0 taken.0 kept.2 taken.2,
        subst (λ before. Takes theory c.args.date.now before start (joined kept.0 taken.0) next) (sym (one_more all items at left default below within))
            (took_next theory c.args.date.now (take at all) start reached next kept.0 taken.0 one
            (sym (adds_closes c.args.output.now c.loop-item.output kept.0 kept.2 c.requires) ∙ c.loop-item.invariant.stays) stays kept.3 taken.1),
      );
      stays = c.if-output.false;
      moves = moves_join g.C.Context.conduct g.met.C.Context.is_motion c.args.contexts.now c.loop-item.contexts c.take_item.new.contexts
          c.loop-item.invariant.moves c.take_item.ensures.moves;
    }

pub returns-in_err-take_item-clause-moves : goal.returns-in_err-take_item-clause-moves
returns-in_err-take_item-clause-moves g c =
    moves_join g.C.Context.conduct g.met.C.Context.is_motion c.args.contexts.now c.loop-item.contexts c.take_item.new.contexts
    c.loop-item.invariant.moves c.take_item.ensures.moves

pub returns-then-output-clause-moves : goal.returns-then-output-clause-moves
returns-then-output-clause-moves g c =
    moves_join g.C.Context.conduct g.met.C.Context.is_motion c.args.contexts.now c.loop-item.contexts c.take_item.new.contexts
    c.loop-item.invariant.moves c.take_item.ensures.moves

pub returns-then-output-clause-takes : goal.returns-then-output-clause-takes
returns-then-output-clause-takes g c =
    let theory = theory_of g.C.HasContextPath.path_of g.C.Context.conduct g.W.Words.draws in
    let taken = c.in_ok-take_item.ensures.takes in
    let kept = c.loop-item.invariant.takes in
    let start = world_of c.args.contexts.now c.args.words.now in
    let reached = world_of c.loop-item.contexts c.loop-item.words in
    let all = c.args.items.now.items in
    let items = c.loop-item.item-items in
    let at = c.loop-item.item-index in
    let default = c.item-item.result in
    let one = slice_index_or items at default in
    let left = c.loop-item.invariant.left in
    let below : at < length items = omega (arith, c.loop-item-test.true, c.loop-item.auto.item-items) in
    let rest = drop (at + 1) all in
    let is = comes_first all items at left default below in (
      joined kept.0 taken.0,
      stops theory c.args.date.now c.args.items.now.items start reached (world_of c.take_item.new.contexts c.take_item.new.words) kept.0 taken.0
          one rest (sym (adds_closes c.loop-item.output c.take_item.new.output taken.0 taken.2 c.loop-item.invariant.stays) ∙ c.if-output.true)
          (subst (TakesOn theory c.args.date.now c.args.items.now.items start kept.0 reached) is kept.1) taken.1,
      adds_on c.args.output.now c.loop-item.output c.take_item.new.output kept.0 taken.0 kept.2 taken.2,
    )

pub returns-in_err-take_item-clause-breaks : goal.returns-in_err-take_item-clause-breaks
returns-in_err-take_item-clause-breaks g c =
    let theory = theory_of g.C.HasContextPath.path_of g.C.Context.conduct g.W.Words.draws in
    let kept = c.loop-item.invariant.takes in
    let all = c.args.items.now.items in
    let items = c.loop-item.item-items in
    let at = c.loop-item.item-index in
    let default = c.item-item.result in
    let one = slice_index_or items at default in
    let left = c.loop-item.invariant.left in
    let below : at < length items = omega (arith, c.loop-item-test.true, c.loop-item.auto.item-items) in
    let rest = drop (at + 1) all in
    let are = are_split all items at left default below in
    if_err _
    (broken_at theory c.args.date.now c.args.items.now.items (take at all) rest (world_of c.args.contexts.now c.args.words.now)
    (world_of c.loop-item.contexts c.loop-item.words) (world_of c.take_item.new.contexts c.take_item.new.words) kept.0 one are
    (sym (adds_closes c.args.output.now c.loop-item.output kept.0 kept.2 c.requires) ∙ c.loop-item.invariant.stays) kept.3 c.in_err-take_item.ensures.breaks)
