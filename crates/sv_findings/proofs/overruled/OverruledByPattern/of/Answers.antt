use Rattle.std.proofs.Common.{ℕ, List, cond, map, ap, sym, ◌∙◌}
use Rattle.std.specs.Borrow.{Bor}
use Rattle.std.specs.Str.{bytes_eq}
use Rattle.sv_constraints.specs.declared.constraint.Constraint.{Constraint}
use Rattle.sv_constraints.specs.declared.constraint.Rules.{Rules}
use Rattle.sv_overruled.specs.Overruled.{overruled_at}
use Rattle.sv_findings.specs.Overruled.{numbers_at, numbers_in}
use Rattle.sv_findings.proofs.OverruledSteps.{entered_more, left_out}
use Rattle.sv_findings.proofs.overruled.OverruledByPattern.of.Goals.{in-Some+in_ok-enter, in_default}
use Rattle.sv_findings.proofs.overruled.OverruledByPattern.of.Goals as goal

abbrev these : List (Bor Constraint) → List Constraint
these members = map (λ (member : Bor Constraint). member.now) members

abbrev entered_for : Rules → List ℕ → List ℕ → List ℕ → List Constraint → List ℕ
entered_for rules text its_text before members = cond (bytes_eq text its_text) (overruled_at rules its_text members) before

pub loop-pattern-preserved : goal.loop-pattern-preserved
loop-pattern-preserved c = λ constraints are text.
    elim c.match-on.branch [
      | in-Some+in_ok-enter w ↦ entered_more (numbers_at c.args.rules.now constraints) text c.text-text.result.now c.as_slice-pattern-items.result.now c.loop-pattern.pattern-index c.pattern-item.result c.loop-pattern-test.true c.pattern-item.is (sym c.text-text.ensures.value)
          (numbers_in c.loop-pattern.numbers text) (numbers_in c.match-on.numbers text) (c.loop-pattern.invariant constraints are text)
          (ap (λ entered. numbers_in entered text) w.numbers-is
          ∙ w.in_ok-enter.ensures text
          ∙ ap (entered_for c.args.rules.now text c.text-text.result.now (numbers_in c.loop-pattern.numbers text)) (ap these w.as_slice.ensures.value ∙ w.in-Some.ensures constraints are))
      | in_default w ↦ ap (λ entered. numbers_in entered text) w.numbers-is
          ∙ left_out (numbers_at c.args.rules.now constraints) text c.text-text.result.now c.as_slice-pattern-items.result.now c.loop-pattern.pattern-index c.pattern-item.result c.loop-pattern-test.true c.pattern-item.is (sym c.text-text.ensures.value)
          (numbers_in c.loop-pattern.numbers text) (c.loop-pattern.invariant constraints are text)
          (ap (overruled_at c.args.rules.now c.text-text.result.now) (w.in_default.ensures constraints are))
    ]
