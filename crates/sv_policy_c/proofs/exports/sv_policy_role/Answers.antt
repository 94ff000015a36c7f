-- If the handle holds nothing, nothing is done.
use Rattle.std.proofs.Common.{refl, sym, subst, Option}
use Rattle.sv_policy_c.specs.Deciding as spec
use Rattle.sv_policy_c.specs.declared.engine.Engine.{Engine}
use Rattle.sv_policy_c.specs.declared.status.Status.TheVariants as status
use Rattle.sv_policy_c.proofs.exports.sv_policy_role.Goals as goal

pub returns-in_default : goal.returns-in_default
returns-in_default c =
    (status.Nothing, c.number.ensures, subst (λ (after : Option Engine). spec.Gives c.args.role.now c.args.policy.now.value after status.Nothing) (sym c.take.ensures.left) (c.in_default.ensures.taken, refl))
