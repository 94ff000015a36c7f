-- The components that are destroyed while their context is deployed: servlets that are permanently unavailable (Jakarta
-- Servlet 6.0, sections 2.3.3.2 and 2.3.4).
use Rattle.std.specs.Prelude.{◌≡◌, ℕ, ◌==◌, Bool, true, false, List, [], ◌∷◌, ◌++◌, if◌then◌else◌}
use Rattle.std.specs.List.{flat_map, list_any}
use Rattle.sv_component.specs.Call.{Call, Destroyed, Entered, Heard, Inited, Left, Serviced}
use Rattle.sv_component.specs.Runs.{OfFilter, OfListener, OfServlet, Record}
use Rattle.sv_component.specs.Standing.{is_gone}
use Rattle.sv_component.specs.declared.standing.Standing.{Standing}
use Rattle.sv_live.specs.Standing.{standing_at}

abbrev pub is_destroy : Call → Bool
is_destroy (Inited config answer) = false
is_destroy (Serviced before turn step after) = false
is_destroy (Entered before gate after) = false
is_destroy (Left before done after) = false
is_destroy (Heard event) = false
is_destroy Destroyed = true

-- The call of a record, if it is one of the servlet at this index.
abbrev pub call_of : ℕ → Record → List Call
call_of place (OfServlet other call) = if place == other then call ∷ [] else []
call_of place (OfFilter other call) = []
call_of place (OfListener other event) = []

-- The calls of the servlet at this index, in their order.
abbrev pub calls_of : ℕ → List Record → List Call
calls_of place made = flat_map (call_of place) made

abbrev pub is_destroy_of_filter : Record → Bool
is_destroy_of_filter (OfServlet place call) = false
is_destroy_of_filter (OfFilter place call) = is_destroy call
is_destroy_of_filter (OfListener place event) = false

abbrev pub gone_at : ℕ → List Standing → Bool
gone_at place standings = is_gone (standing_at standings place)

-- The calls of a servlet, by whether it is gone before and after them. A servlet that is gone is not called. One that
-- becomes gone is destroyed by its last call. Any other is not destroyed.
abbrev pub EndsSo : Bool → List Call → Bool → Type 0
EndsSo true calls after = (calls ≡ []) × (after ≡ true)
EndsSo false calls true = (front : List Call) × (calls ≡ front ++ Destroyed ∷ []) × (list_any is_destroy front ≡ false)
EndsSo false calls false = list_any is_destroy calls ≡ false

-- This holds for each servlet, and no filter is destroyed.
pub record Retires (before : List Standing) (made : List Record) (after : List Standing) : Type 0 where
  pub servlets : (place : ℕ) → EndsSo (gone_at place before) (calls_of place made) (gone_at place after)
  pub filters : list_any is_destroy_of_filter made ≡ false
