use Rattle.std.proofs.Common.{map, ap, sym, ◌∙◌}
use Rattle.std.specs.Borrow.{Bor}
use Rattle.sv_constraints.specs.declared.constraint.Constraint.{Constraint}
use Rattle.sv_audit_command.specs.Key.{first_number}
use Rattle.sv_audit_command.proofs.key.first_with.Goals as goal

pub returns-in-Some : goal.returns-in-Some
returns-in-Some c = λ constraints are.
    c.first_number.ensures
    ∙ ap first_number (ap (map (λ (member : Bor Constraint). member.now)) c.as_slice.ensures.value ∙ c.in-Some.ensures constraints are)

pub returns-in-None : goal.returns-in-None
returns-in-None c = λ constraints are. ap first_number (sym (c.in-None.ensures constraints are))
