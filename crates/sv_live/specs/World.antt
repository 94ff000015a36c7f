-- The components of a context with their journal, in the form that runs use.
use Rattle.std.specs.Prelude.{◌≡◌, ℕ, ◌<◌, List, length}
use Rattle.sv_component.specs.World.{World}
use Rattle.sv_journal.specs.Journal.{JournalState}
use Rattle.sv_journal.specs.declared.calls.Place.{Place}
use Rattle.sv_journal.specs.declared.calls.Place.TheVariants.{Filter, Servlet}
use Rattle.sv_live.specs.declared.live.Parts.{Parts}

abbrev pub world : {S F L : Type 0} → List ℕ → Parts S F L → JournalState → World S F L
world its_context parts its_journal = record {
  context = its_context;
  servlets = parts.servlets.items;
  filters = parts.filters.items;
  listeners = parts.listeners.items;
  journal = its_journal;
}

-- No component was added or removed.
pub record HasSameCounts {S F L : Type 0} (before after : Parts S F L) : Type 0 where
  pub servlets : length after.servlets.items ≡ length before.servlets.items
  pub filters : length after.filters.items ≡ length before.filters.items
  pub listeners : length after.listeners.items ≡ length before.listeners.items

-- The component exists.
abbrev pub IsPlaceIn : {S F L : Type 0} → Parts S F L → Place → Type 0
IsPlaceIn parts (Filter place) = place < length parts.filters.items
IsPlaceIn parts (Servlet place) = place < length parts.servlets.items
