-- Laws of runs, for components of any type.
use Rattle.std.specs.Prelude.{◌≡◌, ◌↔◌, ℕ, List, ◌++◌, map, slice_get, Some}
use Rattle.sv_component.specs.Call.{Call}
use Rattle.sv_component.specs.Motion.{Moved, MovedAt, calls_at, filter_calls, listener_calls, servlet_calls}
use Rattle.sv_component.specs.Runs.{IsRun, Record, Runs, SameCounts, record_entry}
use Rattle.sv_component.specs.World.{World}
use Rattle.sv_component.specs.declared.components.Named.{Named}
use Rattle.sv_component.specs.Steps.{ComponentSteps}
use Rattle.sv_journal.specs.Journal.{Gains}

-- The named component at an index takes the steps of these calls and keeps its name.
abbrev pub NamedMovedAt : {C : Type 0} → (C → Call → C → Type 0) → List (Named C) → ℕ → List Call → List (Named C) → Type 0
NamedMovedAt {C} step before place calls after =
    (old new : Named C) → slice_get before place ≡ Some old → slice_get after place ≡ Some new
    → Moved step old.component calls new.component × (new.name ≡ old.name)

-- Each component takes exactly the steps of its calls in the run, in order.
pub record ComponentsMoved {S F L : Type 0} (moving : ComponentSteps S F L) (from : World S F L) (records : List Record) (to : World S F L) : Type 0 where
  pub servlets : (place : ℕ) → NamedMovedAt moving.servlet from.servlets place (calls_at place (servlet_calls records)) to.servlets
  pub filters : (place : ℕ) → NamedMovedAt moving.filter from.filters place (calls_at place (filter_calls records)) to.filters
  pub listeners : (place : ℕ) → MovedAt moving.listener from.listeners place (calls_at place (listener_calls records)) to.listeners
  pub counts : SameCounts from to

abbrev pub RunsMoveComponents : {S F L : Type 0} → ComponentSteps S F L → Type 0
RunsMoveComponents {S} {F} {L} moving =
    (from to : World S F L) (records : List Record) → IsRun moving from records to
    → ComponentsMoved moving from records to

-- The journal gains the entries of a run, or gains a prefix of them and breaks.
abbrev pub RunsAreJournalled : {S F L : Type 0} → ComponentSteps S F L → Type 0
RunsAreJournalled {S} {F} {L} moving =
    (from to : World S F L) (records : List Record) → IsRun moving from records to
    → Gains from.journal (map (record_entry from) records) to.journal

-- Two runs in sequence form one run.
abbrev pub RunsJoin : {S F L : Type 0} → ComponentSteps S F L → Type 0
RunsJoin {S} {F} {L} moving =
    (from middle to : World S F L) (front back : List Record) → IsRun moving from front middle
    → IsRun moving middle back to → IsRun moving from (front ++ back) to

-- Calls appended to any run form a run exactly if they form one by themselves.
abbrev pub RunsAreWhole : {S F L : Type 0} → ComponentSteps S F L → Type 0
RunsAreWhole {S} {F} {L} moving =
    (before after : World S F L) (records : List Record)
    → (Runs moving before records after ↔ IsRun moving before records after)
