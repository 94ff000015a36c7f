use Rattle.std.proofs.Common.{map, ap, cond, sym, ◌∙◌}
use Rattle.std.specs.Borrow.{Bor}
use Rattle.sv_constraints.specs.declared.constraint.Constraint.{Constraint}
use Rattle.sv_policy.proofs.Listed.{any_seen}
use Rattle.sv_policy.specs.Merged.{admits_everyone}
use Rattle.sv_audit.specs.Access.{roles_of}
use Rattle.sv_audit.specs.declared.access.Access.TheVariants.{AnyLogin, Roles}
use Rattle.sv_audit.proofs.roles.login_access.Goals as goal

pub returns-then-admit_everyone : goal.returns-then-admit_everyone
returns-then-admit_everyone c =
    ap (λ b. cond b AnyLogin (Roles (roles_of c.args.rules.now (map (λ (member : Bor Constraint). member.now) c.args.members.now))))
    (sym (any_seen admits_everyone (λ (member : Bor Constraint). member.now) c.args.members.now ∙ sym c.admit_everyone.ensures ∙ c.if-admit_everyone.true))

pub returns : goal.returns
returns c =
    ap Roles c.in_ok-roles_of.ensures
    ∙ ap (λ b. cond b AnyLogin (Roles (roles_of c.args.rules.now (map (λ (member : Bor Constraint). member.now) c.args.members.now))))
    (sym (any_seen admits_everyone (λ (member : Bor Constraint). member.now) c.args.members.now ∙ sym c.admit_everyone.ensures ∙ c.if-admit_everyone.false))
