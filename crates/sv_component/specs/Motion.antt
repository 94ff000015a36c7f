-- The motion of a component: one step for each of its calls, in order, and no other step.
use Rattle.std.specs.Prelude.{◌≡◌, ℕ, List, [], ◌∷◌, ◌==◌, slice_get, Some, if◌then◌else◌}
use Rattle.sv_component.specs.Call.{Call, Heard}
use Rattle.sv_component.specs.Runs.{OfFilter, OfListener, OfServlet, Record}

unfoldable pub Moved : {C : Type 0} → (C → Call → C → Type 0) → C → List Call → C → Type 0
Moved step before [] after = after ≡ before
Moved {C} step before (call ∷ calls) after = (middle : C) × step before call middle × Moved step middle calls after

-- The calls of servlets with their indexes, in order.
abbrev pub servlet_calls : List Record → List (ℕ × Call)
servlet_calls [] = []
servlet_calls (OfServlet place call ∷ records) = (place, call) ∷ servlet_calls records
servlet_calls (OfFilter place call ∷ records) = servlet_calls records
servlet_calls (OfListener place event ∷ records) = servlet_calls records

-- The calls of filters with their indexes, in order.
abbrev pub filter_calls : List Record → List (ℕ × Call)
filter_calls [] = []
filter_calls (OfServlet place call ∷ records) = filter_calls records
filter_calls (OfFilter place call ∷ records) = (place, call) ∷ filter_calls records
filter_calls (OfListener place event ∷ records) = filter_calls records

-- The events of listeners with their indexes, in order.
abbrev pub listener_calls : List Record → List (ℕ × Call)
listener_calls [] = []
listener_calls (OfServlet place call ∷ records) = listener_calls records
listener_calls (OfFilter place call ∷ records) = listener_calls records
listener_calls (OfListener place event ∷ records) = (place, Heard event) ∷ listener_calls records

-- The calls of the component at an index.
abbrev pub calls_at : ℕ → List (ℕ × Call) → List Call
calls_at place [] = []
calls_at place (made ∷ others) = if made.0 == place then made.1 ∷ calls_at place others else calls_at place others

-- The component at an index takes the steps of these calls.
abbrev pub MovedAt : {A : Type 0} → (A → Call → A → Type 0) → List A → ℕ → List Call → List A → Type 0
MovedAt {A} step before place calls after =
    (old new : A) → slice_get before place ≡ Some old → slice_get after place ≡ Some new → Moved step old calls new
