-- The course of a connection: its actions, one after another.
use Rattle.std.specs.Prelude.{◌≡◌, List, [], ◌∷◌}
use Rattle.sv_connection.specs.Slots.{Action, Leads, Slot}
use Rattle.sv_connection.specs.Ways.{Ways}

abbrev pub Along : {S : Type 0} → Ways S → Slot S → List (Action S) → Slot S → Type 0
Along ways before [] after = after ≡ before
Along {S} ways before (action ∷ actions) after = (between : Slot S) × Leads ways before action between × Along ways between actions after
