-- Which sessions hold a caller.
use Rattle.std.proofs.Common.{◌≡◌, ◌≢◌, ◌⊎◌, ℕ, zero, suc, List, [], ◌∷◌, ◌++◌, Option, None, Some, Result, refl, sym, ap, ◌∙◌, subst, inl, inr, append_assoc, slice_get, slice_set}
use Rattle.std.specs.List.{AllByRecursion}
use Rattle.sv_journal.specs.declared.entry.Entry.{Entry}
use Rattle.sv_policy.specs.declared.edit.Edit.{Edit}
use Rattle.sv_policy.specs.declared.edit_fault.EditFault.{EditFault}
use Rattle.sv_run.specs.Contexts.{Handling, Theory}
use Rattle.sv_run.specs.Editing.{EditsIn}
use Rattle.sv_run.specs.Effect.{Answered, Deed, Handled}
use Rattle.sv_run.specs.Events.{ExpiresAll}
use Rattle.sv_run.specs.Items.{HandlesAt}
use Rattle.sv_run.specs.Lawful.{EditsAlone, GivesCallersByLogin, Holds, LogsIn}
use Rattle.sv_run.specs.Laws.{CallersLoggedIn, CallersStayOrLogIn, HeldThroughout, HoldsAt, KeepsCaller, LoggedInBefore}
use Rattle.sv_run.specs.Runs.{deeds_of}
use Rattle.sv_run.proofs.Outcomes.{all_append}
use Rattle.sv_run.proofs.Tracing.{IsKept, kept_run}
use Rattle.sv_session.specs.Calls.{HoldsCaller}
use Rattle.sv_session.specs.Store.{Store}

-- the member at a place after some place was set is the new member or an old one
pub at_set : {X : Type 0} (items : List X) (set place : ℕ) (new there : X) → slice_get (slice_set items set new) place ≡ Some there
    → ((place ≡ set) × (new ≡ there)) ⊎ ((place ≢ set) × (slice_get items place ≡ Some there))
at_set [] set place new there found = absurd (cc)
at_set (item ∷ items) zero zero new there found = inl (refl, cc)
at_set (item ∷ items) zero (suc place) new there found = inr (λ same. absurd (cc), found)
at_set (item ∷ items) (suc set) zero new there found = inr (λ same. absurd (cc), found)
at_set (item ∷ items) (suc set) (suc place) new there found = next (at_set items set place new there found)
  where
    next : ((place ≡ set) × (new ≡ there)) ⊎ ((place ≢ set) × (slice_get items place ≡ Some there))
        → ((suc place ≡ suc set) × (new ≡ there)) ⊎ ((suc place ≢ suc set) × (slice_get items place ≡ Some there))
    next (inl here) = inl (ap suc here.0, here.1)
    next (inr apart) = inr (λ same. apart.0 (cc), apart.1)

module _ {Context Words : Type 0} (theory : Theory Context Words) (place number caller : ℕ) where
  -- a session that holds the caller held it before, and throughout, or got it by a login
  abbrev Came : List Context → List (Deed Context) → List Context → Type 0
  Came before deeds after =
      HoldsAt theory place number caller after
      → HeldThroughout theory place number caller before deeds ⊎ LoggedInBefore theory place number caller deeds

  came_so : (before : List Context) → Came before [] before
  came_so before holds = inl (holds, tt)

  came_on : (before between after : List Context) (deeds more : List (Deed Context)) → Came before deeds between → Came between more after
      → Came before (deeds ++ more) after
  came_on before between after deeds more first second holds = by_second (second holds)
    where
      by_first : AllByRecursion (KeepsCaller theory place number caller) more
          → (HoldsAt theory place number caller before × AllByRecursion (KeepsCaller theory place number caller) deeds)
          ⊎ LoggedInBefore theory place number caller deeds
          → (HoldsAt theory place number caller before × AllByRecursion (KeepsCaller theory place number caller) (deeds ++ more))
          ⊎ LoggedInBefore theory place number caller (deeds ++ more)
      by_first kept (inl held) = inl (held.0, all_append (KeepsCaller theory place number caller) deeds more held.1 kept)
      by_first kept (inr logged) =
          inr record {
            earlier = logged.earlier;
            login = logged.login;
            later = logged.later ++ more;
            are = ap (λ ds. ds ++ more) logged.are ∙ append_assoc logged.earlier (Handled place logged.login ∷ logged.later) more;
            logs_in = logged.logs_in;
            stays = all_append (KeepsCaller theory place number caller) logged.later more logged.stays kept;
          }

      by_second : (HoldsAt theory place number caller between × AllByRecursion (KeepsCaller theory place number caller) more)
          ⊎ LoggedInBefore theory place number caller more
          → (HoldsAt theory place number caller before × AllByRecursion (KeepsCaller theory place number caller) (deeds ++ more))
          ⊎ LoggedInBefore theory place number caller (deeds ++ more)
      by_second (inl held) = by_first held.1 (first held.0)
      by_second (inr logged) =
          inr record {
            earlier = deeds ++ logged.earlier;
            login = logged.login;
            later = logged.later;
            are = ap (λ ds. deeds ++ ds) logged.are ∙ sym (append_assoc deeds logged.earlier (Handled place logged.login ∷ logged.later));
            logs_in = logged.logs_in;
            stays = logged.stays;
          }

  came_same : (before after : List Context) → after ≡ before → Came before [] after
  came_same before after same = subst (λ cs. Came before [] cs) (sym same) (came_so before)

  -- a message that the container answers itself
  came_answered : (before after : List Context) (entry : Entry) → after ≡ before → Came before (Answered entry ∷ []) after
  came_answered before after entry same = subst (λ cs. Came before (Answered entry ∷ []) cs) (sym same) (λ holds. inl (holds, (tt, tt)))

  module _ (alone : EditsAlone theory.path_of theory.conduct) (lawful : GivesCallersByLogin theory) where
    came_handled : (moment other : ℕ) (before after : List Context) (handling : Handling Context) → HandlesAt theory moment other before handling after
        → Came before (Handled other handling ∷ []) after
    came_handled moment other before after handling handles holds =
        by_place (at_set before other place handling.after holds.context (subst (λ cs. slice_get cs place ≡ Some holds.context) handles.is_after holds.there))
      where
        Found : Type 0
        Found = (HoldsAt theory place number caller before × AllByRecursion (KeepsCaller theory place number caller) (Handled other handling ∷ []))
            ⊎ LoggedInBefore theory place number caller (Handled other handling ∷ [])

        by_login : place ≡ other → Holds theory number caller handling.after
            → (Holds theory number caller handling.context) ⊎ (LogsIn theory number caller handling) → Found
        by_login here holds_then (inl held) = inl (
          record { context = handling.context; there = ap (λ p. slice_get before p) here ∙ handles.there; holds = held },
          ((λ same. holds_then), tt),
        )
        by_login here holds_then (inr logs_in) =
            inr record {
              earlier = [];
              login = handling;
              later = [];
              are = ap (λ p. Handled p handling ∷ []) (sym here);
              logs_in = logs_in;
              stays = tt;
            }

        by_place : ((place ≡ other) × (handling.after ≡ holds.context)) ⊎ ((place ≢ other) × (slice_get before place ≡ Some holds.context)) → Found
        by_place (inl here) =
            let holds_then = subst (λ c. Holds theory number caller c) (sym here.1) holds.holds in
            by_login here.0 holds_then (lawful.by_login handling number caller handles.handles holds_then)
        by_place (inr apart) = inl (
          record { context = holds.context; there = apart.1; holds = holds.holds },
          ((λ same. absurd (apart.0 same)), tt),
        )

    -- an edit keeps the sessions, and so their callers
    came_edited : (found : Option ℕ) (before after : List Context) (edit : Edit) (answer : Result ℕ EditFault) → EditsIn theory found before edit answer after
        → Came before [] after
    came_edited None before after edit answer edits holds = came_same before after edits.1 holds
    came_edited (Some other) before after edit answer edits holds =
        by_place (at_set before other place edits.edited holds.context (subst (λ cs. slice_get cs place ≡ Some holds.context) edits.is_after holds.there))
      where
        by_place : ((place ≡ other) × (edits.edited ≡ holds.context)) ⊎ ((place ≢ other) × (slice_get before place ≡ Some holds.context))
            → (HoldsAt theory place number caller before × AllByRecursion (KeepsCaller theory place number caller) [])
            ⊎ LoggedInBefore theory place number caller []
        by_place (inl here) =
            let held_then : Holds theory number caller edits.edited = subst (λ c. Holds theory number caller c) (sym here.1) holds.holds in
            inl (
              record {
                context = edits.context;
                there = ap (λ p. slice_get before p) here.0 ∙ edits.there;
                holds = subst (λ (store : Store). HoldsCaller number caller store) (alone.sessions edits.context edits.edited edit answer edits.edits) held_then;
              },
              tt,
            )
        by_place (inr apart) = inl (record { context = holds.context; there = apart.1; holds = holds.holds }, tt)

    -- sessions lose their callers when they end
    held_before : (contexts after : List Context) (moment : ℕ) (told : List Entry) (at : ℕ) → ExpiresAll theory.conduct contexts moment told after
        → (context : Context) → slice_get after at ≡ Some context → Holds theory number caller context
        → (old : Context) × (slice_get contexts at ≡ Some old) × Holds theory number caller old
    held_before [] after moment told at expires context there holds = absurd (empty (subst (λ cs. slice_get cs at ≡ Some context) expires.1 there))
      where
        empty : slice_get [] at ≡ Some context → ⊥
        empty found = absurd (cc)
    held_before (first ∷ others) after moment told at expires context there holds =
        by_place at (subst (λ cs. slice_get cs at ≡ Some context) expires.7 there) (λ k. held_before others expires.3 moment expires.1 k expires.5 context)
      where
        by_place : (k : ℕ) → slice_get (expires.2 ∷ expires.3) k ≡ Some context
            → ((j : ℕ) → slice_get expires.3 j ≡ Some context → Holds theory number caller context
            → (old : Context) × (slice_get others j ≡ Some old) × Holds theory number caller old)
            → (old : Context) × (slice_get (first ∷ others) k ≡ Some old) × Holds theory number caller old
        by_place zero found later = (
          first,
          refl,
          lawful.not_by_expiry first expires.2 moment expires.0 number caller expires.4 (subst (λ c. Holds theory number caller c) (cc) holds),
        )
        by_place (suc j) found later = later j found holds

    came_expires : (contexts after : List Context) (moment : ℕ) (told : List Entry) → ExpiresAll theory.conduct contexts moment told after → Came contexts [] after
    came_expires contexts after moment told expires holds =
        let old = held_before contexts after moment told place expires holds.context holds.there holds.holds in
        inl (record { context = old.0; there = old.1; holds = old.2 }, tt)

    kept_callers : IsKept theory Came
    kept_callers = record {
      none = came_so;
      both = came_on;
      answered = λ contexts entry. came_answered contexts contexts entry refl;
      handled = came_handled;
      edited = came_edited;
      expired = came_expires;
    }

pub callers_stay_or_log_in : {Context Words : Type 0} (theory : Theory Context Words) → EditsAlone theory.path_of theory.conduct → GivesCallersByLogin theory → CallersStayOrLogIn theory
callers_stay_or_log_in theory alone lawful before after happenings answers place number caller run runs holds =
    kept_run theory (Came theory place number caller) (kept_callers theory place number caller alone lawful) before after happenings answers run runs holds

pub callers_logged_in : {Context Words : Type 0} (theory : Theory Context Words) → EditsAlone theory.path_of theory.conduct → GivesCallersByLogin theory → CallersLoggedIn theory
callers_logged_in theory alone lawful before after happenings answers place number caller run runs not_before holds =
    found (callers_stay_or_log_in theory alone lawful before after happenings answers place number caller run runs holds)
  where
    found : HeldThroughout theory place number caller before.world.contexts (deeds_of answers) ⊎ LoggedInBefore theory place number caller (deeds_of answers)
        → LoggedInBefore theory place number caller (deeds_of answers)
    found (inl held) = absurd (not_before held.0)
    found (inr logged) = logged
