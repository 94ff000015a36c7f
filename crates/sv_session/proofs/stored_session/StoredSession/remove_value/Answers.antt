use Rattle.std.proofs.Common.{◌∙◌, ap}
use Rattle.sv_session.specs.Attributes.{without_named}
use Rattle.sv_session.specs.Store.{Session}
use Rattle.sv_session.proofs.AttributeLemmas.{not_valued, nothing_taken, taken_at, valued_at}
use Rattle.sv_session.proofs.stored_session.StoredSession.remove_value.Goals as goal

pub returns-in_err-place-clause-value : goal.returns-in_err-place-clause-value
returns-in_err-place-clause-value c =
    c.from_residual.ensures ∙ not_valued c.args.name.now c.args.self.now c.in_err-place.ensures.place

pub returns-in_err-place-clause-left : goal.returns-in_err-place-clause-left
returns-in_err-place-clause-left c =
    nothing_taken c.args.name.now c.args.self.now c.in_err-place.ensures.place

pub returns-clause-value : goal.returns-clause-value
returns-clause-value c =
    valued_at c.args.name.now c.in_ok-place.place c.self.inside.attributes.items c.args.self.now.attributes (ap (λ session. session.attributes) c.self.view_is) c.in_ok-place.ensures.place c.in_ok-place.ensures.bound c.remove-value.result c.remove-value.ensures.value

pub returns-clause-left : goal.returns-clause-left
returns-clause-left c =
    ap (λ all. record { number = c.self.inside.number; id = c.self.inside.id; last_access = c.self.inside.last_access; caller = c.self.inside.caller; saved = c.self.inside.saved; attributes = all }) (c.remove-value.ensures.items ∙ taken_at c.args.name.now c.in_ok-place.place c.self.inside.attributes.items c.args.self.now.attributes (ap (λ session. session.attributes) c.self.view_is) c.in_ok-place.ensures.place c.in_ok-place.ensures.bound)
    ∙ ap (λ (session : Session). record session { attributes = without_named c.args.name.now c.args.self.now.attributes }) c.self.view_is
