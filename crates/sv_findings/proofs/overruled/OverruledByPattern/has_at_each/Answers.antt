use Rattle.std.proofs.Common.{ℕ, List, sym, ◌∙◌}
use Rattle.std.specs.Borrow.{Bor}
use Rattle.sv_findings.specs.Overruled.{is_overruled_at}
use Rattle.sv_findings.proofs.OverruledSteps.{some_fails}
use Rattle.sv_findings.proofs.overruled.OverruledByPattern.has_at_each.Goals as goal

pub returns-then-not-has : goal.returns-then-not-has
returns-then-not-has c = λ rules constraints are.
    some_fails (λ (pattern : Bor (List ℕ)). pattern.now) (is_overruled_at rules constraints c.args.number) c.args.patterns.now c.loop-pattern.pattern-index _ c.loop-pattern-test.true (sym (c.has.ensures rules constraints are) ∙ c.if-not-has.true)
