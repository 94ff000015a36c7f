-- Runs of components. A run is a list of records; each record moves one component by one call and is journaled.
use Rattle.std.specs.Prelude.{◌≡◌, ℕ, ◌<◌, List, [], ◌∷◌, ◌++◌, length, slice_index_or, slice_set}
use Rattle.sv_component.specs.Call.{Call, Heard}
use Rattle.sv_component.specs.Noted.{filter_entry, servlet_entry}
use Rattle.sv_component.specs.World.{World, name_at}
use Rattle.sv_component.specs.declared.components.Named.{Named}
use Rattle.sv_component.specs.Steps.{ComponentSteps}
use Rattle.sv_journal.specs.Entry.{heard}
use Rattle.sv_journal.specs.Journal.{Takes}
use Rattle.sv_journal.specs.declared.entry.Entry.{Entry}
use Rattle.sv_session.specs.declared.event.Event.{Event}

-- A call of a servlet or filter, or an event that a listener receives. The component is given by its index in the
-- descriptor, from 0.
pub data Record : Type 0 where
  OfServlet : ℕ → Call → Record
  OfFilter : ℕ → Call → Record
  OfListener : ℕ → Event → Record

-- The value at an index takes the step, and no other value changes.
pub record MovesAt {A : Type 0} (step : A → Call → A → Type 0) (before : List A) (place : ℕ) (call : Call) (after : List A) : Type 0 where
  pub old : A
  pub moved : A
  pub there : place < length before
  pub is_old : old ≡ slice_index_or before place old
  pub steps : step old call moved
  pub is : after ≡ slice_set before place moved

-- The step of a named component, which keeps its name.
pub record NamedStep {C : Type 0} (step : C → Call → C → Type 0) (before : Named C) (call : Call) (after : Named C) : Type 0 where
  pub steps : step before.component call after.component
  pub name : after.name ≡ before.name

-- The journal entry of a record.
abbrev pub record_entry : {S F L : Type 0} → World S F L → Record → Entry
record_entry world (OfServlet place call) = servlet_entry world.context (name_at world.servlets place) call
record_entry world (OfFilter place call) = filter_entry world.context (name_at world.filters place) call
record_entry world (OfListener place event) = heard world.context place event

-- Only the component of the record takes a step.
abbrev pub MovesComponent : {S F L : Type 0} → ComponentSteps S F L → World S F L → Record → World S F L → Type 0
MovesComponent moving before (OfServlet place call) after =
    MovesAt (NamedStep moving.servlet) before.servlets place call after.servlets
    × (after.filters ≡ before.filters) × (after.listeners ≡ before.listeners)
MovesComponent moving before (OfFilter place call) after =
    MovesAt (NamedStep moving.filter) before.filters place call after.filters
    × (after.servlets ≡ before.servlets) × (after.listeners ≡ before.listeners)
MovesComponent moving before (OfListener place event) after =
    MovesAt moving.listener before.listeners place (Heard event) after.listeners
    × (after.servlets ≡ before.servlets) × (after.filters ≡ before.filters)

-- The component of the record takes a step, and the journal takes the entry.
pub record Moves {S F L : Type 0} (moving : ComponentSteps S F L) (before : World S F L) (made : Record) (after : World S F L) : Type 0 where
  pub component : MovesComponent moving before made after
  pub journal : Takes before.journal (record_entry before made) after.journal
  pub context : after.context ≡ before.context

-- The records are made in order.
unfoldable pub IsRun : {S F L : Type 0} → ComponentSteps S F L → World S F L → List Record → World S F L → Type 0
IsRun moving before [] after = after ≡ before
IsRun {S} {F} {L} moving before (made ∷ others) after =
    (middle : World S F L) × Moves moving before made middle × IsRun moving middle others after

-- These records can be appended to any run that ends here. This is equivalent to a run, in a form that composes without
-- an intermediate world.
abbrev pub Runs : {S F L : Type 0} → ComponentSteps S F L → World S F L → List Record → World S F L → Type 0
Runs {S} {F} {L} moving before records after =
    (from : World S F L) (done : List Record) → IsRun moving from done before → IsRun moving from (done ++ records) after

-- No component was added or removed.
pub record SameCounts {S F L : Type 0} (before after : World S F L) : Type 0 where
  pub servlets : length after.servlets ≡ length before.servlets
  pub filters : length after.filters ≡ length before.filters
  pub listeners : length after.listeners ≡ length before.listeners
