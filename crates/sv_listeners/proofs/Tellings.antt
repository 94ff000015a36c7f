-- The notification order, one listener after another, and in a world with servlets and filters.
use Rattle.std.proofs.Common.{◌≡◌, ℕ, ◌+◌, ◌-◌, ◌<◌, Bool, true, false, List, [], ◌∷◌, ◌++◌, length, get_or, map, reverse, take, refl, sym, ◌∙◌, ap, ap₂, subst, arith}
use Rattle.std.specs.Prelude.{cond}
use Rattle.std.specs.List.{range_with_len}
use Rattle.std.proofs.lemmas.List.{get_or-map, get_or-reverse, length-map, length-reverse, take_all, take_more}
use Rattle.std.proofs.lemmas.List.FromFn.{get_or-range_with_len, length-range_with_len}
use Rattle.sv_component.specs.Call.{Heard}
use Rattle.sv_component.specs.Runs.{IsRun, Moves, MovesAt, OfListener, Runs}
use Rattle.sv_component.specs.World.{World}
use Rattle.sv_component.proofs.Running as running
use Rattle.sv_component.specs.Steps.{ComponentSteps, listening}
use Rattle.sv_journal.specs.Entry.{heard}
use Rattle.sv_journal.specs.Journal.{JournalState, Takes}
use Rattle.sv_session.specs.declared.event.Event.{Event}
use Rattle.sv_listeners.specs.Telling.{Tells, hearing_order, is_end, listeners_alone, told}

-- The index of the next listener, given the number of listeners already notified.
place_by : Bool → ℕ → ℕ → ℕ
place_by reversed count done = cond reversed (count - 1 - done) done

order_by : Bool → ℕ → List ℕ
order_by reversed count = cond reversed (reverse (range_with_len 0 count)) (range_with_len 0 count)

length_by : (reversed : Bool) (count : ℕ) → length (order_by reversed count) ≡ count
unfolding order_by
length_by true count = length-reverse (range_with_len 0 count) ∙ length-range_with_len 0 count
length_by false count = length-range_with_len 0 count

order_at : (reversed : Bool) (count done : ℕ) → done < count → get_or (order_by reversed count) done 0 ≡ place_by reversed count done
unfolding order_by place_by
order_at true count done within =
    let len = length-range_with_len 0 count in
    get_or-reverse (range_with_len 0 count) done 0 (omega (arith, len, within))
    ∙ ap (λ n. get_or (range_with_len 0 count) (n - 1 - done) 0) len
    ∙ get_or-range_with_len 0 count (count - 1 - done) 0 (omega (arith, within))
    ∙ omega arith
order_at false count done within = get_or-range_with_len 0 count done 0 within ∙ omega arith

pub length_told : (event : Event) (count : ℕ) → length (told event count) ≡ count
unfolding told order_by
length_told event count = length-map (hearing_order event count) _ ∙ length_by (is_end event) count

pub told_none : (event : Event) (count : ℕ) → take 0 (told event count) ≡ []
told_none event count = refl

pub told_all : (event : Event) (count : ℕ) → take count (told event count) ≡ told event count
told_all event count = take_all count (told event count) (omega (arith, length_told event count))

-- One more listener.
pub told_more : (event : Event) (count done place : ℕ) → done < count → place ≡ cond (is_end event) (count - 1 - done) done
    → take (done + 1) (told event count) ≡ take done (told event count) ++ OfListener place event ∷ []
unfolding told order_by place_by
told_more event count done place within is =
    let records = map (λ p. OfListener p event) (hearing_order event count) in
    let len = length_by (is_end event) count in
    take_more records done (OfListener 0 event) (omega (arith, within, length_told event count))
    ∙ ap (λ r. take done records ++ r ∷ [])
    (get_or-map (λ p. OfListener p event) (hearing_order event count) done 0 (OfListener 0 event) (omega (arith, within, len))
    ∙ ap (λ p. OfListener p event) (order_at (is_end event) count done within ∙ sym is))

-- Notifications in a world with servlets and filters.
module _ {S F L : Type 0} (moving : ComponentSteps S F L) where
  -- The world with other listeners and another journal.
  abbrev pub heard_world : World S F L → List L → JournalState → World S F L
  heard_world world its_listeners its_journal = record world { listeners = its_listeners; journal = its_journal }

  hearing_runs : (event : Event) (places : List ℕ) (world : World S F L) (from to : World (Unit {0}) (Unit {0}) L)
      → from.context ≡ world.context → from.listeners ≡ world.listeners → from.journal ≡ world.journal
      → IsRun (listening moving.listener) from (map (λ place. OfListener place event) places) to
      → IsRun moving world (map (λ place. OfListener place event) places) (heard_world world to.listeners to.journal)
  unfolding IsRun
  hearing_runs event [] world from to same_context same_listeners same_journal ran =
      ap₂ (heard_world world) (ap (λ w. w.listeners) ran ∙ same_listeners) (ap (λ w. w.journal) ran ∙ same_journal)
  hearing_runs event (place ∷ places) world from to same_context same_listeners same_journal ran =
      let moves : Moves (listening moving.listener) from (OfListener place event) ran.0 = ran.1 in
      let middle : World S F L = heard_world world ran.0.listeners ran.0.journal in (
        middle,
        record {
          component = (subst (λ all. MovesAt moving.listener all place (Heard event) ran.0.listeners) same_listeners moves.component.0, refl, refl);
          journal = subst (λ j. Takes j (heard world.context place event) ran.0.journal) same_journal
              (subst (λ c. Takes from.journal (heard c place event) ran.0.journal) same_context moves.journal);
          context = refl;
        },
        hearing_runs event places middle ran.0 to (moves.context ∙ same_context) refl refl ran.2,
      )

  pub told_in_world : (world : World S F L) (event : Event) (listeners : List L) (journal : JournalState)
      → Tells moving.listener world.context event world.listeners world.journal listeners journal
      → Runs moving world (told event (length world.listeners)) (heard_world world listeners journal)
  unfolding told
  told_in_world world event listeners journal tells from done ran =
      let hearing = hearing_order event (length world.listeners) in
      let alone = listeners_alone world.context world.listeners world.journal in
      let after = listeners_alone world.context listeners journal in
      running.runs_join moving from world (heard_world world listeners journal) done (map (λ place. OfListener place event) hearing) ran
      (hearing_runs event hearing world alone after refl refl refl
      (running.runs_grown (listening moving.listener) alone after (map (λ place. OfListener place event) hearing) tells))
