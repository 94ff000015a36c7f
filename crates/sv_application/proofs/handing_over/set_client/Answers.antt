use Rattle.std.specs.Prelude.{◌++◌, Ok}
use Rattle.std.proofs.Common.{refl}
use Rattle.sv_application.specs.HandingOver.{Makes, caller_fields, cookie_fields}
use Rattle.sv_application.proofs.SettingLemmas.{returned, then_made, then_none}
use Rattle.sv_application.proofs.handing_over.set_client.Goals as goal

pub returns-in_err-set_caller-clause-set : goal.returns-in_err-set_caller-clause-set
returns-in_err-set_caller-clause-set c =
    returned (λ result. Makes (caller_fields c.args.request.now.caller ++ cookie_fields c.args.request.now.cookies) c.args.exchange.now result c.set_caller.new.exchange) c.from_residual.result
    c.in_err-set_caller.field-0.0 c.from_residual.ensures.1
    (then_none (caller_fields c.args.request.now.caller) (cookie_fields c.args.request.now.cookies) c.in_err-set_caller.field-0.0 c.args.exchange.now c.set_caller.new.exchange c.in_err-set_caller.ensures.set)

pub returns-clause-set : goal.returns-clause-set
returns-clause-set c =
    then_made (caller_fields c.args.request.now.caller) (cookie_fields c.args.request.now.cookies) c.args.exchange.now c.set_caller.new.exchange c.set_cookies.new.exchange
    (Ok c.in_ok-set_caller.field-0) c.set_cookies.result c.in_ok-set_caller.field-0 refl c.in_ok-set_caller.ensures.set c.set_cookies.ensures.set
