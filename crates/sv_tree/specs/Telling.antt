-- Events that the listeners of a context receive (Jakarta Servlet 6.0, section 11.3).
use Rattle.std.specs.Prelude.{ℕ, ◌≡◌, ◌⊎◌, List, Some, None}
use Rattle.std.specs.List.{flat_map}
use Rattle.sv_component.specs.Runs.{Record}
use Rattle.sv_session.specs.declared.event.Event.{Event}
use Rattle.sv_listeners.specs.Telling.{told}
use Rattle.sv_tree.specs.Does.{Does}

-- This many listeners receive the events, one after another, each in its notification order.
abbrev pub all_told : ℕ → List Event → List Record
all_told listeners events = flat_map (λ event. told event listeners) events

-- This many listeners receive the event, in notification order. Memory may run out afterwards.
abbrev pub hears : ℕ → Event → Does (Unit {0})
hears listeners event before calls after result =
    (calls ≡ told event listeners) × (after ≡ before) × ((result ≡ Some tt) ⊎ (result ≡ None))
