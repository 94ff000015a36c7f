use Rattle.std.proofs.Common.{ap, sym, ◌∙◌}
use Rattle.std.specs.Bool.{then_some}
use Rattle.std.specs.Str.{bytes_eq}
use Rattle.std.proofs.Common.{take}
use Rattle.sv_constraints.specs.Covering.{lists}
use Rattle.sv_constraints.specs.Findings.{lesser}
use Rattle.sv_policy.proofs.Steps.{any_more, gone_over}
use Rattle.sv_policy.proofs.Lowered.{lesser_twice, lesser_none}
use Rattle.sv_policy.specs.Merged.{number_of}
use Rattle.sv_policy.proofs.role_numbers.RoleNumbers.lower_all.Goals as goal

pub loop-role-init : goal.loop-role-init
loop-role-init c = λ role. lesser_none (number_of c.args.self.now role)

pub loop-role-preserved : goal.loop-role-preserved
loop-role-preserved c = λ role.
    c.in_ok-lower.ensures role
    ∙ ap (λ text. lesser (number_of c.loop-role.self role) (then_some (bytes_eq text role) c.args.number)) c.as_str.ensures
    ∙ ap (λ found. lesser found (then_some (bytes_eq c.role-item.result role) c.args.number)) (c.loop-role.invariant role)
    ∙ lesser_twice (number_of c.args.self.now role) (lists (take c.loop-role.role-index c.args.roles.now) role) (bytes_eq c.role-item.result role) c.args.number
    ∙ ap (λ b. lesser (number_of c.args.self.now role) (then_some b c.args.number)) (sym (any_more (λ listed. bytes_eq listed role) c.args.roles.now c.loop-role.role-index c.role-item.result c.loop-role-test.true c.role-item.is))

pub returns : goal.returns
returns c = λ role.
    c.loop-role.invariant role
    ∙ ap (λ xs. lesser (number_of c.args.self.now role) (then_some (lists xs role) c.args.number)) (gone_over c.args.roles.now c.loop-role.role-index c.loop-role-test.false)
