use Rattle.std.proofs.Common.{◌≡◌, [], ◌∷◌, ◌++◌, Some, ◌∙◌, ap}
use Rattle.sv_session.specs.declared.slot.Attribute.{Attribute}
use Rattle.sv_session.specs.Attributes.{with_named}
use Rattle.sv_session.specs.Store.{Session}
use Rattle.sv_session.proofs.AttributeLemmas.{not_valued, one_more, set_at, valued_at}
use Rattle.sv_session.proofs.stored_session.StoredSession.set_value.Goals as goal

pub returns-in-Some-clause-value : goal.returns-in-Some-clause-value
returns-in-Some-clause-value c =
    ap Some c.replace.ensures.value ∙ valued_at c.args.name.now c.in-Some.place c.self.inside.attributes.items c.args.self.now.attributes (ap (λ session. session.attributes) c.self.view_is) c.in-Some.ensures.place c.in-Some.ensures.bound c.index_mut.result.now c.index_mut.ensures.value

pub returns-in-Some-clause-set : goal.returns-in-Some-clause-set
returns-in-Some-clause-set c =
    ap (λ all. record { number = c.self.inside.number; id = c.self.inside.id; last_access = c.self.inside.last_access; caller = c.self.inside.caller; saved = c.self.inside.saved; attributes = all }) (set_at c.args.name.now c.in-Some.place c.self.inside.attributes.items c.args.self.now.attributes (ap (λ session. session.attributes) c.self.view_is) c.in-Some.ensures.place c.in-Some.ensures.bound c.index_mut.result.now c.index_mut.ensures.value c.args.value.now
    (record c.index_mut.result.now { value = c.replace.new.dest }) (ap (λ value. record c.index_mut.result.now { value = value }) (c.replace.ensures.after ∙ c.in_ok-value.ensures)))
    ∙ ap (λ (session : Session). record session { attributes = with_named c.args.name.now c.args.value.now c.args.self.now.attributes }) c.self.view_is

pub returns-in_ok-push-in-None-clause-value : goal.returns-in_ok-push-in-None-clause-value
returns-in_ok-push-in-None-clause-value c =
    not_valued c.args.name.now c.args.self.now c.in-None.ensures.place

pub returns-in_ok-push-in-None-clause-set : goal.returns-in_ok-push-in-None-clause-set
returns-in_ok-push-in-None-clause-set c =
    let added : Attribute = record { name = c.in_ok-name-in-None.name; value = c.in_ok-value.value } in
    let same : added ≡ record { name = c.args.name.now; value = c.args.value.now } =
    ap (λ name. record { name = name; value = c.in_ok-value.value }) c.in_ok-name-in-None.ensures
    ∙ ap (λ value. record { name = c.args.name.now; value = value }) c.in_ok-value.ensures in
    ap (λ all. record { number = c.self.inside.number; id = c.self.inside.id; last_access = c.self.inside.last_access; caller = c.self.inside.caller; saved = c.self.inside.saved; attributes = all })
    (c.in_ok-push-in-None.ensures.items
    ∙ (ap (λ attribute. c.self.inside.attributes.items ++ attribute ∷ []) same
    ∙ (ap (λ session. session.attributes ++ record { name = c.args.name.now; value = c.args.value.now } ∷ []) c.self.view_is
    ∙ one_more c.args.name.now c.args.self.now c.in-None.ensures.place c.args.value.now)))
    ∙ ap (λ (session : Session). record session { attributes = with_named c.args.name.now c.args.value.now c.args.self.now.attributes }) c.self.view_is
