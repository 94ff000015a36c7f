use Rattle.std.proofs.Common.{ℕ, Option, subst, sym}
use Rattle.sv_arguments.proofs.Numbers.{number_parsed}
use Rattle.sv_arguments.proofs.count.number_in.Goals as goal
use Rattle.sv_arguments.specs.Values.{IsNumber}

pub returns : goal.returns
returns c =
    let Is : Option ℕ → Type 0 = λ found. IsNumber c.args.text.now found in
    subst Is (sym c.ok.ensures.value) (number_parsed c.args.text.now c.parse.result c.requires c.parse.ensures.value.0)
