use Rattle.std.proofs.Common.{ap, sym, ◌∙◌, take}
use Rattle.std.specs.Bool.{then_some}
use Rattle.std.specs.List.{list_any}
use Rattle.std.specs.Str.{bytes_eq}
use Rattle.sv_constraints.specs.Covering.{lists}
use Rattle.sv_constraints.specs.Findings.{lesser}
use Rattle.sv_constraints.specs.Roles.{roles_named}
use Rattle.sv_policy.proofs.Steps.{any_more, any_of_joined, gone_over}
use Rattle.sv_policy.proofs.Lowered.{lesser_twice, lesser_none}
use Rattle.sv_policy.specs.Merged.{number_of}
use Rattle.sv_policy.proofs.role_numbers.RoleNumbers.name_read.Goals as goal

pub loop-name-init : goal.loop-name-init
loop-name-init c = λ role. lesser_none (number_of c.args.self.now role)

pub loop-name-preserved : goal.loop-name-preserved
loop-name-preserved c = λ role.
    c.in_ok-name_one.ensures role
    ∙ ap (λ text. lesser (number_of c.loop-name.self role) (then_some (lists (roles_named c.args.declared.now text) role) c.args.number)) c.as_str.ensures
    ∙ ap (λ found. lesser found (then_some (lists (roles_named c.args.declared.now c.name-item.result) role) c.args.number)) (c.loop-name.invariant role)
    ∙ lesser_twice (number_of c.args.self.now role) (list_any (λ name. lists (roles_named c.args.declared.now name) role) (take c.loop-name.name-index c.args.names.now)) (lists (roles_named c.args.declared.now c.name-item.result) role) c.args.number
    ∙ ap (λ b. lesser (number_of c.args.self.now role) (then_some b c.args.number)) (sym (any_more (λ name. lists (roles_named c.args.declared.now name) role) c.args.names.now c.loop-name.name-index c.name-item.result c.loop-name-test.true c.name-item.is))

pub returns : goal.returns
returns c = λ role.
    c.loop-name.invariant role
    ∙ ap (λ b. lesser (number_of c.args.self.now role) (then_some b c.args.number))
    (ap (list_any (λ name. lists (roles_named c.args.declared.now name) role)) (gone_over c.args.names.now c.loop-name.name-index c.loop-name-test.false)
    ∙ sym (any_of_joined (λ listed. bytes_eq listed role) (roles_named c.args.declared.now) c.args.names.now))
