-- A response is made by one dispatch, followed by at most one dispatch to an error page.
use Rattle.std.specs.Prelude.{codes}
use Rattle.std.proofs.Common.{◌≡◌, inl, inr, ℕ, List, [], ◌++◌, Option, None, Some, refl, sym, ap, ◌∙◌, subst}
use Rattle.std.proofs.lemmas.List.{append-nil}
use Rattle.sv_component.specs.Runs.{Record}
use Rattle.sv_exchange.specs.Changing.{SetHeader, SetStatus, Write}
use Rattle.sv_mapping.specs.declared.kind.Kind.TheVariants as kinds
use Rattle.sv_tree.specs.Does.{◌>>=◌, ◌>>◌, becomes, makes, wants_memory}
use Rattle.sv_tree.specs.Laws.{AnswersOnce, PageCalls}
use Rattle.sv_tree.specs.Served as served
use Rattle.sv_tree.specs.Served.{kept_field, plain_text, reset}
use Rattle.sv_tree.specs.Site.{Site}
use Rattle.sv_tree.specs.State.{KeptField, State, on_exchange}
use Rattle.sv_tree.specs.Tree.{Tree}
use Rattle.sv_tree.specs.declared.finished.Finished.{Finished}
use Rattle.sv_tree.specs.declared.finished.Finished.TheVariants.{Done, Error, Failed}
use Rattle.sv_tree.specs.declared.limits.TheConstants.{INTERNAL_SERVER_ERROR, MAX_NESTING}
use Rattle.sv_tree.proofs.Doing.{chosen_then, wants_then}
use Rattle.sv_tree.proofs.Silence.{Silent, gives_silent, makes_silent, then_silent}
use Rattle.sv_uri.specs.declared.path.Canon.{Canon}

sets_silent : (field : Option KeptField) → Silent (served.sets field)
sets_silent None = gives_silent tt
sets_silent (Some field) = makes_silent (SetHeader field.name field.value)

resets_silent : (status : ℕ) (field : Option KeptField) → Silent (served.Resets status field)
resets_silent status field =
    then_silent (becomes (on_exchange reset)) (λ _. makes (SetStatus status) >> served.sets field) (λ x y r result h. h.0)
    (λ _. then_silent (makes (SetStatus status)) (λ _. served.sets field) (makes_silent (SetStatus status)) (λ _. sets_silent field))

plain_silent : (status : ℕ) (field : Option KeptField) → Silent (served.Plain status field)
plain_silent status field =
    let typed = SetHeader (codes "content-type") (codes "text/plain") in
    let written = Write (plain_text status) in
    then_silent (served.Resets status field) (λ _. makes typed >> makes written) (resets_silent status field)
    (λ _. then_silent (makes typed) (λ _. makes written) (makes_silent typed) (λ _. makes_silent written))

unless_silent : (status : ℕ) (field : Option KeptField) → Silent (served.unless_committed (served.Plain status field))
unless_silent status field x y r result h =
    chosen_then x.exchange.committed served.breaks (served.Plain status field) x y r result
    (λ _ none. none.0) (λ _ made. plain_silent status field x y r result made) h

shown_silent : (status : ℕ) (field : Option KeptField) (finished : Finished) → Silent (served.Shown status field finished)
shown_silent status field Done = gives_silent tt
shown_silent status field (Error other text) = unless_silent status field
shown_silent status field (Failed kind text) = unless_silent status field

module _ (site : Site) where
  page_calls : (status : ℕ) (field : Option KeptField) (page : Canon) (x y : State) (r : List Record) (result : Option (Unit {0}))
      → (Tree site MAX_NESTING kinds.Error page >>= served.Shown status field) x r y result → PageCalls site r
  page_calls status field page x y r result (inr t) = inr (page, x, y, None, t.0)
  page_calls status field page x y r result (inl t) =
      let none : r ≡ t.front = t.is_joined ∙ ap (λ s. t.front ++ s) (shown_silent status field t.given t.between y t.back result t.goes_on) ∙ append-nil t.front in
      inr (page, x, t.between, Some t.given, subst (λ s. Tree site MAX_NESTING kinds.Error page x s t.between (Some t.given)) (sym none) t.begins)

  pages_calls : (status : ℕ) (field : Option KeptField) (page : Option Canon) (x y : State) (r : List Record) (result : Option (Unit {0}))
      → served.Pages site status field page x r y result → PageCalls site r
  pages_calls status field None x y r result h = inl (plain_silent status field x y r result h)
  pages_calls status field (Some page) x y r result (inr t) = inl (resets_silent status field x y r None t.0)
  pages_calls status field (Some page) x y r result (inl t) =
      let none : r ≡ t.back = t.is_joined ∙ ap (λ s. s ++ t.back) (resets_silent status field x t.between t.front (Some t.given) t.begins) in
      subst (PageCalls site) (sym none) (page_calls status field page t.between y t.back result t.goes_on)

  shows_calls : (status : ℕ) (kind : Option (List ℕ)) (x y : State) (r : List Record) (result : Option (Unit {0}))
      → served.Shows site status kind x r y result → PageCalls site r
  shows_calls status kind x y r result h =
      let next = (λ (state : State). served.Pages site status (kept_field state.exchange.kept) (site.page status kind) state) in
      chosen_then x.exchange.committed served.breaks (wants_memory >> next) x y r result
      (λ _ none. inl none.0)
      (λ _ made. elim (wants_then (λ _. next) x y r result made) [
        | inl shown ↦ pages_calls status (kept_field x.exchange.kept) (site.page status kind) x y r result shown
        | inr none ↦ inl none.0
      ])
      h

  settled_calls : (finished : Finished) (x y : State) (r : List Record) (result : Option (Unit {0})) → served.Settled site finished x r y result → PageCalls site r
  settled_calls Done x y r result h = inl h.0
  settled_calls (Error status text) x y r result h = shows_calls status None x y r result h
  settled_calls (Failed kind text) x y r result h = shows_calls INTERNAL_SERVER_ERROR (Some kind) x y r result h

  pub answers_have_one_page : AnswersOnce site
  answers_have_one_page kind canon x y r result (inr t) = record {
    front = r;
    back = [];
    are = sym (append-nil r);
    between = y;
    finished = None;
    dispatch = t.0;
    page = inl refl;
  }
  answers_have_one_page kind canon x y r result (inl t) = record {
    front = t.front;
    back = t.back;
    are = t.is_joined;
    between = t.between;
    finished = Some t.given;
    dispatch = t.begins;
    page = settled_calls t.given t.between y t.back result t.goes_on;
  }
