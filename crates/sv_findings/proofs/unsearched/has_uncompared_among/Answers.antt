use Rattle.std.proofs.Common.{ℕ, List, ap, map, sym, ◌∙◌}
use Rattle.std.specs.Borrow.{Bor}
use Rattle.std.specs.List.{list_any}
use Rattle.sv_findings.proofs.UncomparedSteps.{some_passes}
use Rattle.sv_findings.specs.Unsearched.{is_uncompared}
use Rattle.sv_findings.proofs.unsearched.has_uncompared_among.Goals as goal

pub returns-then-branch : goal.returns-then-branch
returns-then-branch c = λ constraints are.
    some_passes (λ (pattern : Bor (List ℕ)). pattern.now) (is_uncompared constraints c.args.listed.now) c.as_slice-pattern-items.result.now c.loop-pattern.pattern-index c.pattern-item.result c.loop-pattern-test.true
    (ap (λ (pattern : Bor (List ℕ)). is_uncompared constraints c.args.listed.now pattern.now) (sym c.pattern-item.is)
    ∙ ap (is_uncompared constraints c.args.listed.now) (sym c.text.ensures.value)
    ∙ sym (c.in_ok-is_uncompared.ensures constraints are) ∙ c.if-branch.true)
    ∙ ap (λ patterns. list_any (is_uncompared constraints c.args.listed.now) (map (λ (pattern : Bor (List ℕ)). pattern.now) patterns)) c.as_slice-pattern-items.ensures.value
