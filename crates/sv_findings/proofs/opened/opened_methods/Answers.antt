use Rattle.std.proofs.Common.{map, ap, ◌∙◌}
use Rattle.std.specs.Prelude.{is_some}
use Rattle.std.specs.Borrow.{Bor}
use Rattle.sv_constraints.specs.declared.constraint.Constraint.{Constraint}
use Rattle.sv_findings.proofs.OpenedSteps.{all_except, only_these}
use Rattle.sv_findings.proofs.opened.opened_methods.Goals as goal

pub returns-then-are_others : goal.returns-then-are_others
returns-then-are_others c =
    all_except (map (λ (member : Bor Constraint). member.now) c.args.members.now) c.args.pattern.now c.in_ok-names.names c.is_some-are_others.result
    (c.is_some-are_others.ensures ∙ ap is_some c.in_ok-opened_for.ensures) c.if-are_others.true c.in_ok-names.ensures

pub returns-else-are_others : goal.returns-else-are_others
returns-else-are_others c =
    only_these (map (λ (member : Bor Constraint). member.now) c.args.members.now) c.args.pattern.now c.in_ok-names.names c.is_some-are_others.result
    (c.is_some-are_others.ensures ∙ ap is_some c.in_ok-opened_for.ensures) c.if-are_others.false c.in_ok-names.ensures
