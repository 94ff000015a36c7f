use Rattle.std.proofs.Common.{ap, map, refl, ◌∙◌}
use Rattle.sv_policy.proofs.Kept.{kept_first, kept_there}
use Rattle.sv_policy.proofs.patterns.keep_all.Goals as goal
use Rattle.sv_policy.proofs.patterns.keep_all.Goals.{then-not-is_among+in_ok-push, else-not-is_among}

pub loop-pattern-preserved : goal.loop-pattern-preserved
loop-pattern-preserved c =
    elim c.if-not-is_among.branch [
      | then-not-is_among+in_ok-push w ↦
          kept_first (map (λ pattern. pattern.now) c.args.kept.now.items) c.args.patterns.now c.loop-pattern.pattern-index c.pattern-item.result c.loop-pattern.kept.items c.text.result.now c.as_slice.result.now c.is_among.result
          c.loop-pattern-test.true c.pattern-item.is c.loop-pattern.invariant c.is_among.ensures c.text.ensures.value c.as_slice.ensures.value
          w.if-not-is_among.true c.if-not-is_among.kept.items _ (ap (λ kept. kept.items) w.kept-is ∙ w.in_ok-push.ensures.items) refl
      | else-not-is_among w ↦
          kept_there (map (λ pattern. pattern.now) c.args.kept.now.items) c.args.patterns.now c.loop-pattern.pattern-index c.pattern-item.result c.loop-pattern.kept.items c.text.result.now c.as_slice.result.now c.is_among.result
          c.loop-pattern-test.true c.pattern-item.is c.loop-pattern.invariant c.is_among.ensures c.text.ensures.value c.as_slice.ensures.value
          w.if-not-is_among.false c.if-not-is_among.kept.items (ap (λ kept. kept.items) w.kept-is)
    ]
