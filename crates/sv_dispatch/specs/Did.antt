-- The actions of a machine, as contracts see them: the calls that it made, as one flat list, and their properties.
use Rattle.std.specs.Prelude.{◌≡◌, ℕ, Bool, false, List, ◌++◌, Option, Some, None, Result, Ok, Err, reverse, take}
use Rattle.std.specs.Borrow.{GName}
use Rattle.sv_component.specs.Runs.{Record}
use Rattle.sv_dispatch.specs.declared.filters.Passed.{Passed}
use Rattle.sv_journal.specs.declared.calls.Place.{Place}
use Rattle.sv_tree.specs.Does.{Does}
use Rattle.sv_tree.specs.Filters.{Reached}
use Rattle.sv_tree.specs.State.{State}

-- The part that no call changes: the context, the numbers of servlets, filters and listeners, the initialized
-- components, and the borrowed values. It also holds whether the journal is whole.
pub record Frame : Type 0 where
  pub context : List ℕ
  pub servlets : ℕ
  pub filters : ℕ
  pub listeners : ℕ
  pub initialised : List Place
  pub live : GName
  pub exchange : GName
  pub journal : GName
  pub whole : Bool

-- The part of the frame that stays: all of it, except that the journal may have broken if memory ran out.
abbrev pub staying : {A : Type 0} → Option A → Frame → Frame
staying (Some value) frame = frame
staying None frame = record frame { whole = false }

-- The relation holds of the calls that were made, they extend any earlier run, and the frame stays. A broken journal
-- ends the action.
pub record Did {M A : Type 0} (state : M → State) (frame : M → Frame) (ran : M → List Record → M → Type 0) (does : Does A) (before after : M) (result : Option A) : Type 0 where
  pub made : List Record
  pub does_so : does (state before) made (state after) result
  pub runs : (from : M) (done : List Record) → ran from done before → ran from (done ++ made) after
  pub stays : staying result (frame after) ≡ staying result (frame before)

-- The value of a result, or none if memory ran out.
abbrev pub seen : {A E : Type 0} → Result A E → Option A
seen (Ok value) = Some value
seen (Err refusal) = None

-- The end of a dispatch: the servlet gets no further turn.
abbrev pub lasting : {A E : Type 0} → Result A E → Result (Option A) E
lasting (Ok value) = Ok (Some value)
lasting (Err refusal) = Err refusal

-- The filters that passed are the first of the chain.
abbrev pub reached_by : {E : Type 0} → List ℕ → Result Passed E → Option Reached
reached_by chain (Ok passed) = Some record { passed = reverse (take passed.count chain); ended = passed.ended }
reached_by chain (Err refusal) = None
