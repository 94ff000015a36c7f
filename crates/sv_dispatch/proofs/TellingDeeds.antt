-- Notifications of events, one after another.
use Rattle.std.proofs.Common.{◌≡◌, ℕ, List, [], ◌∷◌, ◌++◌, drop, None, Some, refl, ap, ◌∙◌, sym}
use Rattle.std.specs.Prelude.{slice_get}
use Rattle.sv_exchange.specs.State as exchanges
use Rattle.sv_session.specs.declared.event.Event.{Event}
use Rattle.sv_listeners.specs.Telling.{told}
use Rattle.sv_tree.specs.Asking.{without_events}
use Rattle.sv_tree.specs.Telling.{all_told}

first_of : (events : List Event) (event : Event) → Some event ≡ slice_get events 0 → events ≡ event ∷ drop 1 events
first_of [] event e = cc
first_of (other ∷ events) event e = let same : other ≡ event = cc in ap (λ first. first ∷ events) same

none_of : (events : List Event) → None ≡ slice_get events 0 → events ≡ []
none_of [] e = refl
none_of (other ∷ events) e = cc

module _ (x y : exchanges.State) (left : y ≡ record x { events = drop 1 x.events }) where
  -- The oldest event was taken.
  pub taken : (listeners : ℕ) (event : Event) → Some event ≡ slice_get x.events 0
      → all_told listeners x.events ≡ told event listeners ++ all_told listeners y.events
  taken listeners event oldest =
      ap (all_told listeners) (first_of x.events event oldest)
      ∙ ap (λ events. told event listeners ++ all_told listeners events) (sym (ap (λ e. e.events) left))

  pub still_without : (start : exchanges.State) → without_events x ≡ without_events start → without_events y ≡ without_events start
  still_without start told = ap without_events left ∙ told

  -- No event is left.
  pub none_told : (listeners : ℕ) → None ≡ slice_get x.events 0 → all_told listeners x.events ≡ []
  none_told listeners none = ap (all_told listeners) (none_of x.events none)

  pub is_without : (start : exchanges.State) → None ≡ slice_get x.events 0 → without_events x ≡ without_events start → y ≡ without_events start
  is_without start none told = left ∙ ap (λ events. record x { events = drop 1 events }) (none_of x.events none) ∙ told
