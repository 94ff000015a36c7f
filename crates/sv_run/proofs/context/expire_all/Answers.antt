use Rattle.std.proofs.Common.{◌≡◌, ◌++◌, ◌<◌, [], length, slice_index_or, slice_set, refl, sym, ap, ◌∙◌, subst, arith, append-nil, append_assoc, add-one}
use Rattle.std.proofs.lemmas.List.{length-set}
use Rattle.sv_journal.specs.Journal.{JournalState}
use Rattle.sv_run.specs.Effect.{noting}
use Rattle.sv_run.proofs.Contexts.{ExpiresTo, expires_next, expires_whole, moves_next, moves_none}
use Rattle.sv_run.proofs.context.expire_all.Goals as goal

pub loop-place-init : goal.loop-place-init
loop-place-init g c = record {
  count = refl;
  expires = ([], (refl, refl), λ whole i. record c.args.journal.now { entries = sym (append-nil c.args.journal.now.entries) i });
  moves = moves_none g.C.Context.conduct g.met.C.Context.is_motion c.args.contexts.now;
}

pub loop-place-preserved : goal.loop-place-preserved
loop-place-preserved g c =
    let conduct = g.C.Context.conduct in
    let place = c.loop-place.place in
    let old = slice_index_or c.loop-place.contexts place c.index-contexts-place.result in
    let is_old : old ≡ slice_index_or c.loop-place.contexts place old = ap (λ d. slice_index_or c.loop-place.contexts place d) c.index-contexts-place.is in
    let within : place < length c.loop-place.contexts = omega (arith, c.loop-place-test.true, c.loop-place.invariant.count) in
    record {
      count = length-set c.loop-place.contexts place c.expire.new.self ∙ c.loop-place.invariant.count;
      expires =
          let ended = c.expire.ensures.expires in
          let so_far = c.loop-place.invariant.expires in (
            so_far.0 ++ ended.0,
            subst (λ k. ExpiresTo conduct c.args.moment k c.args.contexts.now (so_far.0 ++ ended.0) (slice_set c.loop-place.contexts place c.expire.new.self))
                (sym (add-one place))
                (expires_next conduct c.args.moment place c.args.contexts.now c.loop-place.contexts so_far.0 ended.0 old c.expire.new.self
                within is_old so_far.1 ended.1),
            λ whole. ended.2 whole
                ∙ ap (noting ended.0) (so_far.2 (sym (ap (λ (j : JournalState). j.whole) (ended.2 whole)) ∙ whole))
                ∙ (λ i. record c.args.journal.now { entries = append_assoc c.args.journal.now.entries so_far.0 ended.0 i }),
          );
      moves = moves_next conduct g.met.C.Context.is_motion place c.args.contexts.now c.loop-place.contexts old c.expire.new.self
          within is_old c.loop-place.invariant.moves c.expire.ensures.moves;
    }

pub returns-clause-expires : goal.returns-clause-expires
returns-clause-expires g c =
    let so_far = c.loop-place.invariant.expires in (
      so_far.0,
      expires_whole g.C.Context.conduct c.args.moment c.loop-place.place c.args.contexts.now c.loop-place.contexts so_far.0
          (omega (arith, c.loop-place-test.false)) so_far.1,
      so_far.2,
    )
