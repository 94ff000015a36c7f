-- Properties of notifications.
use Rattle.std.proofs.Common.{ℕ, List, [], ◌∷◌, ◌++◌, sym, subst, append_assoc, append-nil}
use Rattle.std.specs.Prelude.{map}
use Rattle.sv_component.specs.Runs.{OfListener, Record}
use Rattle.sv_session.specs.declared.event.Event.{Event}
use Rattle.sv_listeners.specs.Telling.{hearing_order, told}
use Rattle.sv_tree.specs.Telling.{all_told}

-- A property that each single notification keeps holds for all of them.
module _ (P : List Record → Type 0) (more : (place : ℕ) (event : Event) (r : List Record) → P r → P (OfListener place event ∷ r)) where
  heard_keep : (event : Event) (places : List ℕ) (r : List Record) → P r → P (map (λ place. OfListener place event) places ++ r)
  heard_keep event [] r h = h
  heard_keep event (place ∷ places) r h = more place event (map (λ place. OfListener place event) places ++ r) (heard_keep event places r h)

  told_keep : (listeners : ℕ) (event : Event) (r : List Record) → P r → P (told event listeners ++ r)
  unfolding told
  told_keep listeners event r h = heard_keep event (hearing_order event listeners) r h

  pub all_keep : (listeners : ℕ) (events : List Event) (r : List Record) → P r → P (all_told listeners events ++ r)
  all_keep listeners [] r h = h
  all_keep listeners (event ∷ events) r h =
      subst P (sym (append_assoc (told event listeners) (all_told listeners events) r))
      (told_keep listeners event (all_told listeners events ++ r) (all_keep listeners events r h))

  -- The same with no calls after them.
  pub all_keep_alone : (listeners : ℕ) (events : List Event) → P [] → P (all_told listeners events)
  all_keep_alone listeners events h = subst P (append-nil (all_told listeners events)) (all_keep listeners events [] h)
