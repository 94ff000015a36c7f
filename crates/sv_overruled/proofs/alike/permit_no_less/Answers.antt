use Rattle.std.proofs.Common.{map, sym, ◌∙◌}
use Rattle.std.specs.Borrow.{Bor}
use Rattle.std.specs.List.{list_any}
use Rattle.sv_constraints.specs.Verdict.{permits_plain}
use Rattle.sv_constraints.specs.declared.constraint.Constraint.{Constraint}
use Rattle.sv_policy.proofs.Listed.{any_seen}
use Rattle.sv_overruled.proofs.OverruledSteps.{plain_if}
use Rattle.sv_overruled.proofs.alike.permit_no_less.Goals as goal

pub returns-else-not-permits_plain : goal.returns-else-not-permits_plain
returns-else-not-permits_plain c =
    plain_if (permits_plain c.args.constraint.now) (list_any permits_plain (map (λ (other : Bor Constraint). other.now) c.args.others.now)) c.any_permits_plain.result (sym c.permits_plain.ensures ∙ c.if-not-permits_plain.false)
    (c.any_permits_plain.ensures ∙ sym (any_seen permits_plain (λ (other : Bor Constraint). other.now) c.args.others.now))
