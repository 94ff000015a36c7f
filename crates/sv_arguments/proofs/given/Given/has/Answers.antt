use Rattle.std.proofs.Common.{Bool, subst, sym}
use Rattle.sv_arguments.proofs.Saying.{given_first}
use Rattle.sv_arguments.proofs.given.Given.has.Goals as goal
use Rattle.sv_arguments.specs.Settings.{values}
use Rattle.sv_arguments.specs.Values.{IsGiven}

pub returns : goal.returns
returns c = λ settings are.
    let Is : Bool → Type 0 = λ given. IsGiven (values c.args.key settings) given in
    subst Is (sym c.is_some.ensures)
    (given_first (values c.args.key settings) c.value_in.result (are.1.1 c.args.key) (c.value_in.ensures settings are.0 are.1.0))
