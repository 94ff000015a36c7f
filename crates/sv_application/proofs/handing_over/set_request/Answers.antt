use Rattle.std.specs.Prelude.{codes, [], ◌∷◌, ◌++◌, Ok}
use Rattle.std.proofs.Common.{refl}
use Rattle.sv_application.specs.HandingOver.{Makes, caller_fields, cookie_fields, request_fields}
use Rattle.sv_exchange.specs.Changing.{SetHeader}
use Rattle.sv_application.proofs.SettingLemmas.{returned, then_made, then_none}
use Rattle.sv_application.proofs.handing_over.set_request.Goals as goal

pub returns-in_err-set_text-clause-set : goal.returns-in_err-set_text-clause-set
returns-in_err-set_text-clause-set c =
    returned (λ result. Makes (request_fields c.args.request.now) c.args.exchange.now result c.set_text.new.exchange) c.from_residual.result
    c.in_err-set_text.field-0.0 c.from_residual.ensures.1
    (then_none (SetHeader (codes "x-application-target") c.args.request.now.target ∷ []) (caller_fields c.args.request.now.caller ++ cookie_fields c.args.request.now.cookies) c.in_err-set_text.field-0.0 c.args.exchange.now c.set_text.new.exchange c.in_err-set_text.ensures.set)

pub returns-clause-set : goal.returns-clause-set
returns-clause-set c =
    then_made (SetHeader (codes "x-application-target") c.args.request.now.target ∷ []) (caller_fields c.args.request.now.caller ++ cookie_fields c.args.request.now.cookies) c.args.exchange.now c.set_text.new.exchange c.set_client.new.exchange
    (Ok c.in_ok-set_text.field-0) c.set_client.result c.in_ok-set_text.field-0 refl c.in_ok-set_text.ensures.set c.set_client.ensures.set
