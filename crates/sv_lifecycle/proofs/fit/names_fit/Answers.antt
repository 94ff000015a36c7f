use Rattle.std.proofs.Common.{arith, sym, ◌∙◌, ap}
use Rattle.sv_lifecycle.proofs.Fitting.{names_more, same_at, texts_differ, texts_equal}
use Rattle.sv_lifecycle.proofs.fit.names_fit.Goals as goal

pub returns-then-ne : goal.returns-then-ne
returns-then-ne g c = λ same.
    texts_differ c.name.result.now c.as_str.result.now (sym c.ne.ensures ∙ c.if-ne.true)
    (c.name.ensures
    ∙ sym (same_at (λ n. n.name) g.D.Named.its_name c.args.named.now c.args.declared.now c.loop-place.place c.index-named-place.result c.index-declared-place.result
    (omega (arith, c.loop-place-test.true, c.if-declared-named.false)) c.loop-place-test.true c.index-named-place.is c.index-declared-place.is same)
    ∙ ap (λ n. n.name) c.index-named-place.is ∙ sym c.as_str.ensures)

pub loop-place-preserved : goal.loop-place-preserved
loop-place-preserved g c =
    names_more (λ n. n.name) g.D.Named.its_name c.args.named.now c.args.declared.now c.loop-place.place c.index-named-place.result c.index-declared-place.result
    (omega (arith, c.loop-place-test.true, c.if-declared-named.false)) c.loop-place-test.true c.index-named-place.is c.index-declared-place.is
    (ap (λ n. n.name) c.index-named-place.is ∙ sym c.as_str.ensures ∙ sym (texts_equal c.name.result.now c.as_str.result.now (sym c.ne.ensures ∙ c.if-ne.false))
    ∙ c.name.ensures)
    c.loop-place.invariant
