use Rattle.std.proofs.Common.{◌≡◌, slice_index_or, slice_set, sym, ap, ◌∙◌, arith, add-one}
use Rattle.sv_container.proofs.Mapping.{mapped_next, mapped_to, mapped_whole}
use Rattle.sv_context.specs.Forgetting.{without_sessions}
use Rattle.sv_container.proofs.shutdown.forget_sessions.Goals as goal

pub loop-place-preserved : goal.loop-place-preserved
loop-place-preserved g c =
    let place = c.loop-place.place in
    let all = c.args.contexts.now in
    let contexts = c.loop-place.contexts in
    let old = slice_index_or contexts place c.index-contexts-place.result in
    let is_old : old ≡ slice_index_or contexts place old = ap (λ d. slice_index_or contexts place d) c.index-contexts-place.is in
    let so_far : contexts ≡ mapped_to without_sessions place all = c.loop-place.invariant in
    ap (slice_set contexts place) c.forget_sessions.ensures
    ∙ ap (λ cs. slice_set cs place (without_sessions old)) so_far
    ∙ mapped_next without_sessions place all old c.loop-place-test.true (is_old ∙ ap (λ cs. slice_index_or cs place old) so_far)
    ∙ ap (λ n. mapped_to without_sessions n all) (sym (add-one place))

pub returns : goal.returns
returns g c = c.loop-place.invariant ∙ mapped_whole without_sessions c.loop-place.place c.args.contexts.now (omega (arith, c.loop-place-test.false))
