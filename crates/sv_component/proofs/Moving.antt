-- A record moves one component and leaves the others as they are.
use Rattle.std.proofs.Common.{◌≡◌, ◌≢◌, ℕ, ◌<◌, inl, inr, List, [], ◌∷◌, length, get_or, set, map, Option, Some, refl, sym, ◌∙◌, ap, subst, arith}
use Rattle.std.specs.Prelude.{◌==◌, slice_get, unwrap_or}
use Rattle.std.specs.Option.{option_map}
use Rattle.std.proofs.lemmas.Bool.{cases_lt, cond-true, cond-false}
use Rattle.std.proofs.lemmas.Bool.Decides.{eqb_tells}
use Rattle.std.proofs.lemmas.List.{get_or-set_same, get_or-set_other, length-set}
use Rattle.std.proofs.lemmas.Option.{get_or_from_slice_get, same_Some, slice_get-get_or, slice_get_past, slice_get_within}
use Rattle.sv_component.specs.Call.{Call}
use Rattle.sv_component.specs.Laws.{ComponentsMoved, NamedMovedAt}
use Rattle.sv_component.specs.Motion.{Moved, MovedAt, calls_at, filter_calls, listener_calls, servlet_calls}
use Rattle.sv_component.specs.Noted.{filter_entry, servlet_entry}
use Rattle.sv_component.specs.Runs.{IsRun, Moves, MovesAt, NamedStep, OfFilter, OfListener, OfServlet, Record, record_entry}
use Rattle.sv_component.specs.World.{World, name_at}
use Rattle.sv_component.specs.declared.components.Named.{Named}
use Rattle.sv_component.specs.Steps.{ComponentSteps}
use Rattle.sv_journal.specs.Entry.{heard}

module _ {A : Type 0} (step : A → Call → A → Type 0) where
  -- The calls of one list of components, made in order.
  unfoldable pub ListRuns : List A → List (ℕ × Call) → List A → Type 0
  ListRuns before [] after = after ≡ before
  ListRuns before (made ∷ others) after = (middle : List A) × MovesAt step before made.0 made.1 middle × ListRuns middle others after

  -- The component at the index moves from its entry in the first list to its entry in the second.
  moved_here : (before : List A) (place : ℕ) (call : Call) (after : List A) (moves : MovesAt step before place call after) (old : A)
      → slice_get before place ≡ Some old → (moves.old ≡ old) × (slice_get after place ≡ Some moves.moved)
  moved_here before place call after moves old is = (
    moves.is_old ∙ get_or_from_slice_get before place old moves.old is,
    ap (λ xs. slice_get xs place) moves.is
        ∙ slice_get-get_or (set before place moves.moved) place moves.moved (omega (arith, moves.there, length-set before place moves.moved))
        ∙ ap Some (get_or-set_same before place moves.moved moves.moved moves.there),
  )

  stays_there : (before : List A) (place other : ℕ) (call : Call) (after : List A) → MovesAt step before place call after → other ≢ place → (old : A)
      → slice_get before other ≡ Some old → slice_get after other ≡ Some old
  stays_there before place other call after moves differs old is =
      let within : other < length before = slice_get_within before other old is in
      ap (λ xs. slice_get xs other) moves.is
      ∙ slice_get-get_or (set before place moves.moved) other old (omega (arith, within, length-set before place moves.moved))
      ∙ ap Some (get_or-set_other before place other moves.moved old differs ∙ get_or_from_slice_get before other old old is)

  pub list_moved : (before after : List A) (made : List (ℕ × Call)) → ListRuns before made after → (place : ℕ) → MovedAt step before place (calls_at place made) after
  unfolding ListRuns Moved
  list_moved before after [] ran place old new is_old is_new = same_Some new old (sym is_new ∙ ap (λ xs. slice_get xs place) ran ∙ is_old)
  list_moved before after (made ∷ others) ran place old new is_old is_new = elim (eqb_tells made.0 place) [
    | inl here ↦
        let moves : MovesAt step before made.0 made.1 ran.0 = ran.1 in
        let found = moved_here before made.0 made.1 ran.0 moves old (ap (λ p. slice_get before p) here.1 ∙ is_old) in
        let rest : Moved step moves.moved (calls_at place others) new =
        list_moved ran.0 after others ran.2 place moves.moved new (ap (λ p. slice_get ran.0 p) (sym here.1) ∙ found.1) is_new in
        subst (λ calls. Moved step old calls new) (sym (cond-true (made.0 == place) _ _ here.0))
        (moves.moved, subst (λ from. step from made.1 moves.moved) found.0 moves.steps, rest)
    | inr elsewhere ↦
        let rest : Moved step old (calls_at place others) new =
        list_moved ran.0 after others ran.2 place old new (stays_there before made.0 place made.1 ran.0 ran.1 (λ same. elsewhere.1 (sym same)) old is_old) is_new in
        subst (λ calls. Moved step old calls new) (sym (cond-false (made.0 == place) _ _ elsewhere.0)) rest
  ]

  pub list_length : (before after : List A) (made : List (ℕ × Call)) → ListRuns before made after → length after ≡ length before
  unfolding ListRuns
  list_length before after [] ran = ap length ran
  list_length before after (made ∷ others) ran =
      let moves : MovesAt step before made.0 made.1 ran.0 = ran.1 in
      list_length ran.0 after others ran.2 ∙ ap length moves.is ∙ length-set before made.0 moves.moved

-- A named component takes the steps of the component and keeps its name.
module _ {C : Type 0} (step : C → Call → C → Type 0) where
  named_moved : (old : Named C) (calls : List Call) (new : Named C) → Moved (NamedStep step) old calls new → Moved step old.component calls new.component × (new.name ≡ old.name)
  unfolding Moved
  named_moved old [] new same = (ap (λ named. named.component) same, ap (λ named. named.name) same)
  named_moved old (call ∷ calls) new moved =
      let first : NamedStep step old call moved.0 = moved.1 in
      let rest : Moved step moved.0.component calls new.component × (new.name ≡ moved.0.name) = named_moved moved.0 calls new moved.2 in
      ((moved.0.component, first.steps, rest.0), rest.1 ∙ first.name)

  pub named_list_moved : (before after : List (Named C)) (made : List (ℕ × Call)) → ListRuns (NamedStep step) before made after → (place : ℕ)
      → NamedMovedAt step before place (calls_at place made) after
  named_list_moved before after made ran place old new is_old is_new =
      named_moved old (calls_at place made) new (list_moved (NamedStep step) before after made ran place old new is_old is_new)

  -- The names do not change.
  pub same_names : (before : List (Named C)) (place : ℕ) (call : Call) (after : List (Named C)) → MovesAt (NamedStep step) before place call after → (wanted : ℕ)
      → name_at before wanted ≡ name_at after wanted
  same_names before place call after moves wanted = elim (cases_lt wanted (length before)) [
    | inl within ↦
        let old : Named C = get_or before wanted moves.old in
        let is : slice_get before wanted ≡ Some old = slice_get-get_or before wanted moves.old within in
        elim (eqb_tells place wanted) [
          | inl here ↦
              let found = moved_here (NamedStep step) before place call after moves old (ap (λ p. slice_get before p) here.1 ∙ is) in
              let kept : moves.moved.name ≡ moves.old.name = moves.steps.name in
              ap named_text is ∙ (sym (kept ∙ ap (λ named. named.name) found.0) ∙ sym (ap named_text (ap (λ p. slice_get after p) (sym here.1) ∙ found.1)))
          | inr elsewhere ↦
              ap named_text is ∙ sym (ap named_text (stays_there (NamedStep step) before place wanted call after moves (λ same. elsewhere.1 (sym same)) old is))
        ]
    | inr beyond ↦
        ap named_text (slice_get_past before wanted beyond)
        ∙ sym (ap named_text (slice_get_past after wanted (omega (arith, beyond, ap length moves.is, length-set before place moves.moved))))
  ]
    where
      named_text : Option (Named C) → List ℕ
      named_text found = unwrap_or (option_map (λ named. named.name) found) []

module _ {S F L : Type 0} (moving : ComponentSteps S F L) where
  pub servlets_ran : (from to : World S F L) (records : List Record) → IsRun moving from records to → ListRuns (NamedStep moving.servlet) from.servlets (servlet_calls records) to.servlets
  unfolding IsRun ListRuns
  servlets_ran from to [] ran = ap (λ w. w.servlets) ran
  servlets_ran from to (OfServlet place call ∷ others) ran =
      let moves : Moves moving from (OfServlet place call) ran.0 = ran.1 in
      (ran.0.servlets, moves.component.0, servlets_ran ran.0 to others ran.2)
  servlets_ran from to (OfFilter place call ∷ others) ran =
      let moves : Moves moving from (OfFilter place call) ran.0 = ran.1 in
      subst (λ xs. ListRuns (NamedStep moving.servlet) xs (servlet_calls others) to.servlets) moves.component.1 (servlets_ran ran.0 to others ran.2)
  servlets_ran from to (OfListener place event ∷ others) ran =
      let moves : Moves moving from (OfListener place event) ran.0 = ran.1 in
      subst (λ xs. ListRuns (NamedStep moving.servlet) xs (servlet_calls others) to.servlets) moves.component.1 (servlets_ran ran.0 to others ran.2)

  pub filters_ran : (from to : World S F L) (records : List Record) → IsRun moving from records to → ListRuns (NamedStep moving.filter) from.filters (filter_calls records) to.filters
  unfolding IsRun ListRuns
  filters_ran from to [] ran = ap (λ w. w.filters) ran
  filters_ran from to (OfServlet place call ∷ others) ran =
      let moves : Moves moving from (OfServlet place call) ran.0 = ran.1 in
      subst (λ xs. ListRuns (NamedStep moving.filter) xs (filter_calls others) to.filters) moves.component.1 (filters_ran ran.0 to others ran.2)
  filters_ran from to (OfFilter place call ∷ others) ran =
      let moves : Moves moving from (OfFilter place call) ran.0 = ran.1 in
      (ran.0.filters, moves.component.0, filters_ran ran.0 to others ran.2)
  filters_ran from to (OfListener place event ∷ others) ran =
      let moves : Moves moving from (OfListener place event) ran.0 = ran.1 in
      subst (λ xs. ListRuns (NamedStep moving.filter) xs (filter_calls others) to.filters) moves.component.2 (filters_ran ran.0 to others ran.2)

  pub listeners_ran : (from to : World S F L) (records : List Record) → IsRun moving from records to → ListRuns moving.listener from.listeners (listener_calls records) to.listeners
  unfolding IsRun ListRuns
  listeners_ran from to [] ran = ap (λ w. w.listeners) ran
  listeners_ran from to (OfServlet place call ∷ others) ran =
      let moves : Moves moving from (OfServlet place call) ran.0 = ran.1 in
      subst (λ xs. ListRuns moving.listener xs (listener_calls others) to.listeners) moves.component.2 (listeners_ran ran.0 to others ran.2)
  listeners_ran from to (OfFilter place call ∷ others) ran =
      let moves : Moves moving from (OfFilter place call) ran.0 = ran.1 in
      subst (λ xs. ListRuns moving.listener xs (listener_calls others) to.listeners) moves.component.2 (listeners_ran ran.0 to others ran.2)
  listeners_ran from to (OfListener place event ∷ others) ran =
      let moves : Moves moving from (OfListener place event) ran.0 = ran.1 in
      (ran.0.listeners, moves.component.0, listeners_ran ran.0 to others ran.2)

  pub components_moved : (from to : World S F L) (records : List Record) → IsRun moving from records to → ComponentsMoved moving from records to
  components_moved from to records ran =
      let servlets = servlets_ran from to records ran in
      let filters = filters_ran from to records ran in
      let listeners = listeners_ran from to records ran in
      record {
        servlets = λ place. named_list_moved moving.servlet from.servlets to.servlets (servlet_calls records) servlets place;
        filters = λ place. named_list_moved moving.filter from.filters to.filters (filter_calls records) filters place;
        listeners = λ place. list_moved moving.listener from.listeners to.listeners (listener_calls records) listeners place;
        counts = record {
          servlets = list_length (NamedStep moving.servlet) from.servlets to.servlets (servlet_calls records) servlets;
          filters = list_length (NamedStep moving.filter) from.filters to.filters (filter_calls records) filters;
          listeners = list_length moving.listener from.listeners to.listeners (listener_calls records) listeners;
        };
      }

  servlet_name : (from : World S F L) (made : Record) (middle : World S F L) → Moves moving from made middle → (place : ℕ) → name_at middle.servlets place ≡ name_at from.servlets place
  servlet_name from (OfServlet moved call) middle moves place = sym (same_names moving.servlet from.servlets moved call middle.servlets moves.component.0 place)
  servlet_name from (OfFilter moved call) middle moves place = ap (λ xs. name_at xs place) moves.component.1
  servlet_name from (OfListener moved event) middle moves place = ap (λ xs. name_at xs place) moves.component.1

  filter_name : (from : World S F L) (made : Record) (middle : World S F L) → Moves moving from made middle → (place : ℕ) → name_at middle.filters place ≡ name_at from.filters place
  filter_name from (OfServlet moved call) middle moves place = ap (λ xs. name_at xs place) moves.component.1
  filter_name from (OfFilter moved call) middle moves place = sym (same_names moving.filter from.filters moved call middle.filters moves.component.0 place)
  filter_name from (OfListener moved event) middle moves place = ap (λ xs. name_at xs place) moves.component.2

  -- A record changes neither the context nor a name, so entries are the same before and after it.
  same_entry : (from : World S F L) (made : Record) (middle : World S F L) → Moves moving from made middle → (other : Record) → record_entry middle other ≡ record_entry from other
  same_entry from made middle moves (OfServlet place call) =
      ap (λ context. servlet_entry context (name_at middle.servlets place) call) moves.context
      ∙ ap (λ name. servlet_entry from.context name call) (servlet_name from made middle moves place)
  same_entry from made middle moves (OfFilter place call) =
      ap (λ context. filter_entry context (name_at middle.filters place) call) moves.context
      ∙ ap (λ name. filter_entry from.context name call) (filter_name from made middle moves place)
  same_entry from made middle moves (OfListener place event) = ap (λ context. heard context place event) moves.context

  pub same_entries : (from : World S F L) (made : Record) (middle : World S F L) → Moves moving from made middle → (others : List Record)
      → map (record_entry middle) others ≡ map (record_entry from) others
  same_entries from made middle moves [] = refl
  same_entries from made middle moves (other ∷ others) =
      ap (λ entry. entry ∷ map (record_entry middle) others) (same_entry from made middle moves other)
      ∙ ap (λ entries. record_entry from other ∷ entries) (same_entries from made middle moves others)
