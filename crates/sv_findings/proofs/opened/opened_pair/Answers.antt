use Rattle.std.proofs.Common.{ℕ, List, Option, None, Some, map, ap, ap₂, ◌∙◌}
use Rattle.std.proofs.lemmas.List.{take_all}
use Rattle.std.specs.Prelude.{fold}
use Rattle.std.specs.Borrow.{Bor}
use Rattle.sv_constraints.specs.declared.constraint.Constraint.{Constraint}
use Rattle.sv_findings.specs.Opened.{lesser_pair, opened_for, opened_pair}
use Rattle.sv_findings.proofs.opened.opened_pair.Goals as goal

abbrev texts : List (Bor (List ℕ)) → List (List ℕ)
texts names = map (λ (name : Bor (List ℕ)). name.now) names

abbrev least_of : List Constraint → List ℕ → List (List ℕ) → Option (ℕ × ℕ)
least_of members pattern names = fold (λ least method. lesser_pair least (opened_for members pattern (Some method))) None names

pub returns : goal.returns
unfolding opened_pair
returns c =
    c.lesser_pair.ensures
    ∙ ap₂ lesser_pair
    (c.loop-name.invariant
    ∙ ap (λ names. least_of (map (λ (member : Bor Constraint). member.now) c.args.members.now) c.args.pattern.now (texts names)) (take_all c.loop-name.name-index c.as_slice-name-items.result.now c.loop-name-test.false ∙ c.as_slice-name-items.ensures.value)
    ∙ ap (least_of (map (λ (member : Bor Constraint). member.now) c.args.members.now) c.args.pattern.now) c.in_ok-rising_names.ensures)
    c.in_ok-opened_for-2.ensures
