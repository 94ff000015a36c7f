-- The availability of the servlets of a started context (Jakarta Servlet 6.0, section 2.3.3.2).
use Rattle.std.specs.Prelude.{◌≡◌, ℕ, Bool, true, not, List, length, slice_get, unwrap_or}
use Rattle.std.specs.List.{All, filter}
use Rattle.sv_component.specs.Standing.{is_gone}
use Rattle.sv_component.specs.World.{World}
use Rattle.sv_journal.specs.Journal.{JournalState}
use Rattle.sv_live.specs.World.{IsPlaceIn, world}
use Rattle.sv_journal.specs.declared.calls.Place.{Place}
use Rattle.sv_journal.specs.declared.calls.Place.TheVariants.{Filter, Servlet}
use Rattle.sv_live.specs.declared.live.Parts.{Parts}
use Rattle.sv_component.specs.declared.standing.Standing.{Standing}
use Rattle.sv_component.specs.declared.standing.Standing.TheVariants.{Gone}

-- A started context: its path, its components, the initialized components in order, and the availability of its
-- servlets.
pub record LiveState (S F L : Type 0) : Type 0 where
  pub context : List ℕ
  pub parts : Parts S F L
  pub initialised : List Place
  pub standings : List Standing

-- Each servlet has an availability, and each initialized component exists.
pub record IsLive {S F L : Type 0} (live : LiveState S F L) : Type 0 where
  pub standings : length live.standings ≡ length live.parts.servlets.items
  pub initialised : All (IsPlaceIn live.parts) live.initialised

abbrev pub live_world : {S F L : Type 0} → LiveState S F L → JournalState → World S F L
live_world live journal = world live.context live.parts journal

-- The availability of the servlet at an index.
abbrev pub standing_at : List Standing → ℕ → Standing
standing_at standings place = unwrap_or (slice_get standings place) Gone

-- A filter is always in service, and a servlet is unless it is gone.
abbrev pub is_in_service : List Standing → Place → Bool
is_in_service standings (Filter place) = true
is_in_service standings (Servlet place) = not (is_gone (standing_at standings place))

-- The initialized components that are not gone, in order of their `init`.
abbrev pub in_service : {S F L : Type 0} → LiveState S F L → List Place
in_service live = filter (is_in_service live.standings) live.initialised
