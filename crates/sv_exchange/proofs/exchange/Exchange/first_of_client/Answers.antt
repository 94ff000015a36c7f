use Rattle.std.proofs.Common.{sym, subst, ap, ◌∙◌}
use Rattle.sv_text.specs.Gives.{GivesAnswer}
use Rattle.sv_message.proofs.Joining.{first_behind, first_in_front}
use Rattle.sv_message.specs.Parameters.{first_named}
use Rattle.sv_exchange.specs.Parameters.{body_parameters, query_parameters}
use Rattle.sv_exchange.specs.State.{State}
use Rattle.sv_exchange.proofs.exchange.Exchange.first_of_client.Goals as goal

pub returns-in-Some : goal.returns-in-Some
returns-in-Some c =
    sym (first_in_front c.args.name.now (query_parameters c.args.self.now.client.query) (body_parameters c.args.self.now) c.in-Some.value
    (sym (rw c.query.ensures at c.in_ok-value.ensures ∙ ap (λ (x : State). first_named c.args.name.now (query_parameters x.client.query)) c.self.view_is) ∙ c.in-Some.is))

pub returns-in-None : goal.returns-in-None
returns-in-None c =
    subst (GivesAnswer c.first_of_body.result)
    (sym (first_behind c.args.name.now (query_parameters c.args.self.now.client.query) (body_parameters c.args.self.now)
    (sym (rw c.query.ensures at c.in_ok-value.ensures ∙ ap (λ (x : State). first_named c.args.name.now (query_parameters x.client.query)) c.self.view_is) ∙ c.in-None.is)))
    c.first_of_body.ensures
