use Rattle.std.specs.Prelude.{[], ◌∷◌}
use Rattle.sv_application.specs.HandingOver.{Makes}
use Rattle.sv_application.proofs.SettingLemmas.{one_made, one_refused, returned}
use Rattle.sv_exchange.specs.Changing.{SetHeader}
use Rattle.sv_application.proofs.handing_over.set.Goals as goal

pub returns-in_err-set_header-clause-set : goal.returns-in_err-set_header-clause-set
returns-in_err-set_header-clause-set c =
    returned (λ result. Makes (SetHeader c.args.name.now c.args.value.now ∷ []) c.args.exchange.now result c.set_header.new.self) c.from_residual.result
    c.in_err-set_header.field-0.0 c.from_residual.ensures.1
    (one_refused (SetHeader c.args.name.now c.args.value.now) c.in_err-set_header.field-0.0 c.args.exchange.now c.set_header.new.self c.in_err-set_header.ensures.does)

pub returns-clause-set : goal.returns-clause-set
returns-clause-set c =
    one_made (SetHeader c.args.name.now c.args.value.now) c.in_ok-set_header.field-0 c.args.exchange.now c.set_header.new.self c.in_ok-set_header.ensures.does
