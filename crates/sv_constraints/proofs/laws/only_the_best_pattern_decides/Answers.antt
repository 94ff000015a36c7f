use Rattle.std.proofs.Common.{ap, sym, ◌∙◌}
use Rattle.sv_constraints.specs.Covering.{covering}
use Rattle.sv_constraints.specs.Verdict.{verdict_at}
use Rattle.sv_constraints.proofs.laws.only_the_best_pattern_decides.Goals as goal

pub returns : goal.returns
returns c = λ constraints others rules method path caller pattern best other_best same.
    ap (λ p. verdict_at rules caller p (covering constraints p method)) best
    ∙ ap (verdict_at rules caller pattern) same
    ∙ ap (λ p. verdict_at rules caller p (covering others p method)) (sym other_best)
