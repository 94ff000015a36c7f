-- Components whose steps leave the fields that a proxy reads, or the caller.
use Rattle.std.proofs.Common.{◌≡◌, ◌⊎◌, inl, inr, ℕ, ◌<◌, List, [], ◌∷◌, length, get_or, set, Option, None, Some, refl, sym, ap, ◌∙◌, subst, arith, slice_get}
use Rattle.std.proofs.lemmas.Bool.Decides.{eqb_tells}
use Rattle.std.proofs.lemmas.List.{get_or-set_other, get_or-set_same, length-set}
use Rattle.std.proofs.lemmas.Option.{get_or_from_slice_get, same_Some, slice_get-get_or, slice_get_within}
use Rattle.std.specs.List.{AllByRecursion}
use Rattle.sv_application.specs.ProxyFields.{OnExchange, SameProxyFields}
use Rattle.sv_component.specs.Call as calls
use Rattle.sv_component.specs.Call.{Call, Serviced}
use Rattle.sv_component.specs.Runs.{IsRun, Moves, MovesAt, NamedStep, OfFilter, OfListener, OfServlet, Record}
use Rattle.sv_component.specs.Steps.{ComponentSteps}
use Rattle.sv_component.specs.World.{World}
use Rattle.sv_component.specs.declared.components.Named.{Named}
use Rattle.sv_context.specs.Conduct.{unnoted}
use Rattle.sv_context.specs.State.{ContextState, world_of}
use Rattle.sv_exchange.specs.State as exchanges
use Rattle.sv_headline.proofs.HandingOver.{ran}
use Rattle.sv_headline.proofs.RefutingRuns.{message_of}
use Rattle.sv_headline.specs.HandedOver.{HoldsOfOther, IsOfApplication, RedirectsInRunsAreOfEntries, StepsHandOverOnlyEntries, StepsLeaveFields}
use Rattle.sv_headline.specs.Message.{IsLawfulMessage}
use Rattle.sv_run.specs.Contexts.{Handling}

-- ---- the components of a list, of which one moves

module _ {A : Type 0} (step : A → Call → A → Type 0) (before : List A) (place : ℕ) (call : Call) (after : List A) (moves : MovesAt step before place call after) where
  is_there : slice_get before place ≡ Some moves.old
  is_there = slice_get-get_or before place moves.old moves.there ∙ ap Some (sym moves.is_old)

  same_length : length after ≡ length before
  same_length = ap length moves.is ∙ length-set before place moves.moved

  is_moved : slice_get after place ≡ Some moves.moved
  is_moved =
      ap (λ xs. slice_get xs place) moves.is
      ∙ slice_get-get_or (set before place moves.moved) place moves.moved (omega (arith, moves.there, length-set before place moves.moved))
      ∙ ap Some (get_or-set_same before place moves.moved moves.moved moves.there)

  -- each is the one that moved, or was there before
  moved_or_there : (other : ℕ) (found : A) → slice_get after other ≡ Some found
      → ((place ≡ other) × (found ≡ moves.moved)) ⊎ (slice_get before other ≡ Some found)
  moved_or_there other found is = elim (eqb_tells place other) [
    | inl here ↦ inl (here.1, same_Some found moves.moved (sym is ∙ (ap (λ p. slice_get after p) (sym here.1) ∙ is_moved)))
    | inr elsewhere ↦
        let within : other < length after = slice_get_within after other found is in
        let kept : get_or after other found ≡ get_or before other found =
        ap (λ xs. get_or xs other found) moves.is ∙ get_or-set_other before place other moves.moved found (λ same. elsewhere.1 (sym same)) in
        inr (slice_get-get_or before other found (omega (arith, within, same_length))
        ∙ ap Some (sym kept ∙ get_or_from_slice_get after other found found is))
  ]

-- the servlet at a place serves nothing by this call
abbrev pub ServesNothingAt : (ℕ → Type 0) → Record → Type 0
ServesNothingAt IsSpared (OfServlet place (Serviced before turn step after)) = ¬ (IsSpared place)
ServesNothingAt IsSpared other = Unit {0}

-- `Same`: what stays in the exchange. `IsFair`: the servlets that leave it. `IsSpared`: the places of servlets that serve nothing.
module _ {S F L : Type 0} (moving : ComponentSteps S F L) (location_of : S → Option (List ℕ)) (Same : exchanges.State → exchanges.State → Type 0) (IsFair : S → Type 0)
    (IsSpared : ℕ → Type 0) where
  pub record OthersLeave : Type 0 where
    pub servlets : (before after : S) (call : Call) → location_of before ≡ None → IsFair before → moving.servlet before call after
        → (location_of after ≡ None) × (IsFair after × OnExchange Same call)
    pub filters : (before after : F) (call : Call) → moving.filter before call after → OnExchange Same call

  module _ (leave : OthersLeave) (context : ContextState S F L) where
    abbrev IsOf : ℕ → Type 0
    IsOf place = IsOfApplication moving location_of context place

    -- the servlet at a place had an internal location at the start, or is spared or fair
    abbrev IsOfOrFair : ℕ → S → Type 0
    IsOfOrFair place component = IsOf place ⊎ (IsSpared place ⊎ ((location_of component ≡ None) × IsFair component))

    abbrev AreOfOrFair : List (Named S) → Type 0
    AreOfOrFair servlets = (place : ℕ) (servlet : Named S) → slice_get servlets place ≡ Some servlet → IsOfOrFair place servlet.component

    abbrev Holds : Record → Type 0
    Holds made = HoldsOfOther moving location_of context Same made

    module _ (before : List (Named S)) (place : ℕ) (call : Call) (after : List (Named S)) (moves : MovesAt (NamedStep moving.servlet) before place call after)
        (are : AreOfOrFair before) where
      moved_stays : IsOfOrFair place moves.moved.component
      moved_stays = elim (are place moves.old (is_there (NamedStep moving.servlet) before place call after moves)) [
        | inl its ↦ inl its
        | inr (inl spared) ↦ inr (inl spared)
        | inr (inr other) ↦
            let left = leave.servlets moves.old.component moves.moved.component call other.0 other.1 moves.steps.steps in
            inr (inr (left.0, left.1.0))
      ]

      all_stay : AreOfOrFair after
      all_stay other servlet is = elim (moved_or_there (NamedStep moving.servlet) before place call after moves other servlet is) [
        | inl here ↦ subst (λ its_place. IsOfOrFair its_place servlet.component) here.0
            (subst (λ (its : Named S). IsOfOrFair place its.component) (sym here.1) moved_stays)
        | inr there ↦ are other servlet there
      ]

      service_leaves : ¬ (IsOf place) → ¬ (IsSpared place) → OnExchange Same call
      service_leaves apart serves = elim (are place moves.old (is_there (NamedStep moving.servlet) before place call after moves)) [
        | inl its ↦ absurd (apart its)
        | inr (inl spared) ↦ absurd (serves spared)
        | inr (inr other) ↦ (leave.servlets moves.old.component moves.moved.component call other.0 other.1 moves.steps.steps).1.1
      ]

    of_servlet : (place : ℕ) (call : Call) → (¬ (IsOf place) → ¬ (IsSpared place) → OnExchange Same call) → ServesNothingAt IsSpared (OfServlet place call)
        → Holds (OfServlet place call)
    of_servlet place (Serviced before turn step after) leaves serves = λ apart. leaves apart serves
    of_servlet place (calls.Inited config init) leaves serves = tt
    of_servlet place (calls.Entered before gate after) leaves serves = tt
    of_servlet place (calls.Left before done after) leaves serves = tt
    of_servlet place (calls.Heard event) leaves serves = tt
    of_servlet place calls.Destroyed leaves serves = tt

    of_filter : (place : ℕ) (call : Call) → OnExchange Same call → Holds (OfFilter place call)
    of_filter place (Serviced before turn step after) leaves = tt
    of_filter place (calls.Inited config init) leaves = tt
    of_filter place (calls.Entered before gate after) leaves = leaves
    of_filter place (calls.Left before done after) leaves = leaves
    of_filter place (calls.Heard event) leaves = tt
    of_filter place calls.Destroyed leaves = tt

    all_leave : (from to : World S F L) (made : List Record) → IsRun moving from made to → AreOfOrFair from.servlets → AllByRecursion (ServesNothingAt IsSpared) made
        → AllByRecursion Holds made
    unfolding IsRun
    all_leave from to [] run are spares = tt
    all_leave from to (OfServlet place call ∷ others) run are spares =
        let moves : Moves moving from (OfServlet place call) run.0 = run.1 in (
          of_servlet place call (service_leaves from.servlets place call run.0.servlets moves.component.0 are) spares.0,
          all_leave run.0 to others run.2 (all_stay from.servlets place call run.0.servlets moves.component.0 are) spares.1,
        )
    all_leave from to (OfFilter place call ∷ others) run are spares =
        let moves : Moves moving from (OfFilter place call) run.0 = run.1 in
        let moved : MovesAt (NamedStep moving.filter) from.filters place call run.0.filters = moves.component.0 in (
          of_filter place call (leave.filters moved.old.component moved.moved.component call moved.steps.steps),
          all_leave run.0 to others run.2 (subst AreOfOrFair (sym moves.component.1) are) spares.1,
        )
    all_leave from to (OfListener place event ∷ others) run are spares =
        let moves : Moves moving from (OfListener place event) run.0 = run.1 in
        (tt, all_leave run.0 to others run.2 (subst AreOfOrFair (sym moves.component.1) are) spares.1)

  -- in a lawful message the other servlets and the filters leave what their steps leave, if each servlet is fair at first or
  -- serves nothing
  pub others_leave : (handling : Handling (ContextState S F L)) (made : List Record) → OthersLeave → IsLawfulMessage moving handling made
      → ((place : ℕ) (servlet : Named S) → slice_get handling.context.servlets place ≡ Some servlet → IsSpared place ⊎ IsFair servlet.component)
      → AllByRecursion (ServesNothingAt IsSpared) made
      → AllByRecursion (HoldsOfOther moving location_of handling.context Same) made
  others_leave handling made leave lawful fair spares =
      all_leave leave handling.context (world_of handling.context unnoted) (world_of handling.after unnoted) made (ran moving handling made lawful)
      (λ place servlet is. by place servlet is (location_of servlet.component) refl) spares
    where
      by : (place : ℕ) (servlet : Named S) → slice_get handling.context.servlets place ≡ Some servlet
          → (found : Option (List ℕ)) → location_of servlet.component ≡ found
          → IsOfApplication moving location_of handling.context place ⊎ (IsSpared place ⊎ ((location_of servlet.component ≡ None) × IsFair servlet.component))
      by place servlet is (Some internal) located = inl (internal, (servlet, is, located))
      by place servlet is None none = elim (fair place servlet is) [
        | inl spared ↦ inr (inl spared)
        | inr its ↦ inr (inr (none, its))
      ]

spares_none : (made : List Record) → AllByRecursion (ServesNothingAt (λ place. ⊥)) made
spares_none [] = tt
spares_none (OfServlet place (Serviced before turn step after) ∷ others) = (λ none. none, spares_none others)
spares_none (OfServlet place (calls.Inited config init) ∷ others) = (tt, spares_none others)
spares_none (OfServlet place (calls.Entered before gate after) ∷ others) = (tt, spares_none others)
spares_none (OfServlet place (calls.Left before done after) ∷ others) = (tt, spares_none others)
spares_none (OfServlet place (calls.Heard event) ∷ others) = (tt, spares_none others)
spares_none (OfServlet place calls.Destroyed ∷ others) = (tt, spares_none others)
spares_none (OfFilter place call ∷ others) = (tt, spares_none others)
spares_none (OfListener place event ∷ others) = (tt, spares_none others)

module _ {S F L : Type 0} (moving : ComponentSteps S F L) where
  fields_left : (location_of : S → Option (List ℕ)) → StepsLeaveFields moving location_of → OthersLeave moving location_of SameProxyFields (λ servlet. Unit {0}) (λ place. ⊥)
  fields_left location_of leave = record {
    servlets = λ before after call none fair step. let left = leave.servlets before after call none step in (left.0, (tt, left.1));
    filters = leave.filters;
  }

  pub steps_hand_over_only_entries : {Words : Type 0} (draws : Words → ℕ × ℕ → Words → Type 0) → RedirectsInRunsAreOfEntries moving draws
      → StepsHandOverOnlyEntries moving draws
  steps_hand_over_only_entries draws in_runs location_of steps_as leave before after happenings answers lawful earlier later place text handling made internal is redirect =
      let message = (message_of moving draws before after happenings answers lawful earlier later place handling made text is).3 in
      in_runs before after happenings answers lawful earlier later place text location_of handling made internal is steps_as
      (others_leave moving location_of SameProxyFields (λ servlet. Unit {0}) (λ place. ⊥) handling made (fields_left location_of leave) message (λ place servlet there. inr tt)
      (spares_none made))
      redirect
