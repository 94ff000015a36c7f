use Rattle.std.proofs.Common.{reverse, sym, subst, ap, ◌∙◌}
use Rattle.std.specs.List.{flat_map}
use Rattle.sv_text.specs.Gives.{GivesAnswer}
use Rattle.sv_message.proofs.Joining.{first_behind, first_in_front}
use Rattle.sv_message.specs.Parameters.{first_named}
use Rattle.sv_exchange.specs.Parameters.{client_parameters, dispatch_parameters}
use Rattle.sv_exchange.specs.State.{State}
use Rattle.sv_exchange.proofs.exchange.Exchange.parameter.Goals as goal

pub returns-in-Some : goal.returns-in-Some
returns-in-Some c =
    sym (first_in_front c.args.name.now (flat_map dispatch_parameters (reverse c.args.self.now.dispatches)) (client_parameters c.args.self.now) c.in-Some.value
    (sym (rw c.as_slice.ensures at c.in_ok-value.ensures ∙ ap (λ (x : State). first_named c.args.name.now (flat_map dispatch_parameters (reverse x.dispatches))) c.self.view_is) ∙ c.in-Some.is))

pub returns-in-None : goal.returns-in-None
returns-in-None c =
    subst (GivesAnswer c.first_of_client.result)
    (sym (first_behind c.args.name.now (flat_map dispatch_parameters (reverse c.args.self.now.dispatches)) (client_parameters c.args.self.now)
    (sym (rw c.as_slice.ensures at c.in_ok-value.ensures ∙ ap (λ (x : State). first_named c.args.name.now (flat_map dispatch_parameters (reverse x.dispatches))) c.self.view_is) ∙ c.in-None.is)))
    c.first_of_client.ensures
