-- The sessions of each context change only by calls.
use Rattle.std.proofs.Common.{◌≡◌, ℕ, zero, suc, List, [], ◌∷◌, ◌++◌, Option, None, Some, Result, refl, sym, ap, ◌∙◌, subst, inl, inr, eqb, slice_get, slice_set}
use Rattle.std.proofs.lemmas.Bool.{cases_Bool, eqb-false, eqb-true}
use Rattle.sv_journal.specs.declared.entry.Entry.{Entry}
use Rattle.sv_policy.specs.declared.edit.Edit.{Edit}
use Rattle.sv_policy.specs.declared.edit_fault.EditFault.{EditFault}
use Rattle.sv_run.specs.Contexts.{Handling, Theory}
use Rattle.sv_run.specs.Editing.{EditsIn}
use Rattle.sv_run.specs.Effect.{Deed, Handled}
use Rattle.sv_run.specs.Events.{ExpiresAll}
use Rattle.sv_run.specs.Items.{HandlesAt}
use Rattle.sv_run.specs.Lawful.{ChangesSessionsByCalls, EditsAlone}
use Rattle.sv_run.specs.Laws.{SessionsChange, SessionsChangeByCalls}
use Rattle.sv_run.proofs.Constraints.{get_apart, get_set}
use Rattle.sv_run.proofs.Tracing.{IsKept, kept_run}
use Rattle.sv_session.specs.Runs.{ChangedByCalls, left_after}
use Rattle.sv_session.specs.Store.{Store}
use Rattle.sv_session.proofs.MoveLemmas.{left-append}

changed_on : (before between after : Store) → ChangedByCalls before between → ChangedByCalls between after → ChangedByCalls before after
changed_on before between after one other = (one.0 ++ other.0, other.1 ∙ ap (left_after other.0) one.1 ∙ sym (left-append one.0 other.0 before))

module _ {Context Words : Type 0} (theory : Theory Context Words) where
  unchanged : (there : Option Context) → SessionsChange theory there there
  unchanged None = refl
  unchanged (Some context) = (context, refl, ([], refl))

  changed_twice : (before between after : Option Context) → SessionsChange theory before between → SessionsChange theory between after
      → SessionsChange theory before after
  changed_twice None between after one other = subst (λ there. SessionsChange theory there after) one other
  changed_twice (Some first) between after one other =
      let end = subst (λ there. SessionsChange theory there after) one.1 other in (
        end.0,
        end.1,
        changed_on (theory.conduct.sessions_of first) (theory.conduct.sessions_of one.0) (theory.conduct.sessions_of end.0) one.2 end.2,
      )

  as_there : (before after old new : Option Context) → before ≡ old → after ≡ new → SessionsChange theory old new → SessionsChange theory before after
  as_there before after old new first last changed =
      subst (λ there. SessionsChange theory there after) (sym first) (subst (SessionsChange theory old) (sym last) changed)

  abbrev Changed : List Context → List (Deed Context) → List Context → Type 0
  Changed before deeds after = (place : ℕ) → SessionsChange theory (slice_get before place) (slice_get after place)

  stays : (before after : List Context) → after ≡ before → Changed before [] after
  stays before after same place =
      as_there (slice_get before place) (slice_get after place) (slice_get before place) (slice_get before place) refl
      (ap (λ (contexts : List Context). slice_get contexts place) same) (unchanged (slice_get before place))

  -- a context is replaced by another, whose sessions result from its own by calls
  replaced : (at : ℕ) (before after : List Context) (old new : Context) → slice_get before at ≡ Some old → after ≡ slice_set before at new
      → ChangedByCalls (theory.conduct.sessions_of old) (theory.conduct.sessions_of new)
      → (place : ℕ) → SessionsChange theory (slice_get before place) (slice_get after place)
  replaced at before after old new is set changed place = elim (cases_Bool (eqb place at)) [
    | inl same ↦
        let here = eqb-true place at same in
        as_there (slice_get before place) (slice_get after place) (Some old) (Some new) (ap (slice_get before) here ∙ is)
        (ap (λ (contexts : List Context). slice_get contexts place) set ∙ ap (slice_get (slice_set before at new)) here ∙ get_set before at old new is)
        (new, refl, changed)
    | inr apart ↦
        as_there (slice_get before place) (slice_get after place) (slice_get before place) (slice_get before place) refl
        (ap (λ (contexts : List Context). slice_get contexts place) set ∙ get_apart before at place new (eqb-false place at apart))
        (unchanged (slice_get before place))
  ]

  module _ (alone : EditsAlone theory.path_of theory.conduct) (lawful : ChangesSessionsByCalls theory) where
    handled : (moment other : ℕ) (before after : List Context) (handling : Handling Context) → HandlesAt theory moment other before handling after
        → Changed before (Handled other handling ∷ []) after
    handled moment other before after handling handles =
        replaced other before after handling.context handling.after handles.there handles.is_after (lawful.by_request handling handles.handles)

    edited : (found : Option ℕ) (before after : List Context) (edit : Edit) (answer : Result ℕ EditFault) → EditsIn theory found before edit answer after
        → Changed before [] after
    edited None before after edit answer edits = stays before after edits.1
    edited (Some other) before after edit answer edits =
        replaced other before after edits.context edits.edited edits.there edits.is_after ([], alone.sessions edits.context edits.edited edit answer edits.edits)

    expired : (before after : List Context) (moment : ℕ) (told : List Entry) → ExpiresAll theory.conduct before moment told after → Changed before [] after
    expired [] after moment told expires place = stays [] after expires.1 place
    expired (context ∷ contexts) after moment told expires zero =
        as_there (Some context) (slice_get after zero) (Some context) (Some expires.2) refl (ap (λ (all : List Context). slice_get all zero) expires.7)
        (expires.2, refl, lawful.by_expiry context expires.2 moment expires.0 expires.4)
    expired (context ∷ contexts) after moment told expires (suc place) =
        as_there (slice_get contexts place) (slice_get after (suc place)) (slice_get contexts place) (slice_get expires.3 place) refl
        (ap (λ (all : List Context). slice_get all (suc place)) expires.7) (expired contexts expires.3 moment expires.1 expires.5 place)

    kept_sessions : IsKept theory Changed
    kept_sessions = record {
      none = λ contexts. stays contexts contexts refl;
      both = λ before between after deeds more one other place.
          changed_twice (slice_get before place) (slice_get between place) (slice_get after place) (one place) (other place);
      answered = λ contexts entry place. stays contexts contexts refl place;
      handled = handled;
      edited = edited;
      expired = expired;
    }

pub sessions_change_by_calls : {Context Words : Type 0} (theory : Theory Context Words) → EditsAlone theory.path_of theory.conduct → ChangesSessionsByCalls theory
    → SessionsChangeByCalls theory
sessions_change_by_calls theory alone lawful before after happenings answers place run runs =
    kept_run theory (Changed theory) (kept_sessions theory alone lawful) before after happenings answers run runs place
