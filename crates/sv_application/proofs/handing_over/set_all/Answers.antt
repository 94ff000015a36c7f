use Rattle.std.specs.Prelude.{codes, [], ◌∷◌, Ok}
use Rattle.std.proofs.Common.{refl}
use Rattle.sv_application.specs.HandingOver.{Makes, all_fields, request_fields}
use Rattle.sv_exchange.specs.Changing.{SetHeader}
use Rattle.sv_application.proofs.SettingLemmas.{returned, then_made, then_none}
use Rattle.sv_application.proofs.handing_over.set_all.Goals as goal

pub returns-in_err-set_request-clause-set : goal.returns-in_err-set_request-clause-set
returns-in_err-set_request-clause-set c =
    returned (λ result. Makes (all_fields c.args.request.now c.args.internal.now) c.args.exchange.now result c.set_request.new.exchange) c.from_residual.result
    c.in_err-set_request.field-0.0 c.from_residual.ensures.1
    (then_none (request_fields c.args.request.now) (SetHeader (codes "x-accel-redirect") c.args.internal.now ∷ []) c.in_err-set_request.field-0.0 c.args.exchange.now c.set_request.new.exchange c.in_err-set_request.ensures.set)

pub returns-clause-set : goal.returns-clause-set
returns-clause-set c =
    then_made (request_fields c.args.request.now) (SetHeader (codes "x-accel-redirect") c.args.internal.now ∷ []) c.args.exchange.now c.set_request.new.exchange c.set.new.exchange
    (Ok c.in_ok-set_request.field-0) c.set.result c.in_ok-set_request.field-0 refl c.in_ok-set_request.ensures.set c.set.ensures.set
