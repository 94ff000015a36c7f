-- Calls of one component of a started context by index (Jakarta Servlet 6.0, sections 2.3.3 and 6.2.1).
use Rattle.std.specs.Prelude.{◌≡◌, ◌∷◌, ℕ, Bool, false, [], Result, is_ok, slice_set, if◌then◌else◌}
use Rattle.sv_component.specs.Call.{Destroyed, Entered, Left, Serviced}
use Rattle.sv_component.specs.Runs.{OfFilter, OfServlet, Record, Runs}
use Rattle.sv_component.specs.declared.answers.Gate.{Gate}
use Rattle.sv_component.specs.declared.answers.Gate.TheVariants as gates
use Rattle.sv_component.specs.declared.answers.Step.{Step}
use Rattle.sv_component.specs.declared.answers.Step.TheVariants as steps
use Rattle.sv_exchange.specs.State.{State}
use Rattle.sv_journal.specs.Journal.{JournalState}
use Rattle.sv_live.specs.Standing.{LiveState, live_world}
use Rattle.sv_live.specs.World.{HasSameCounts}
use Rattle.sv_component.specs.declared.standing.Standing.{Standing}
use Rattle.sv_component.specs.declared.standing.Standing.TheVariants.{Gone}
use Rattle.sv_component.specs.Steps.{ComponentSteps}
use Rattle.sv_text.specs.declared.no_memory.NoMemory.{NoMemory}

-- The context, the initialized components and the availability of servlets are the same. No component was added or
-- removed.
pub record StandsAsBefore {S F L : Type 0} (before after : LiveState S F L) : Type 0 where
  pub context : after.context ≡ before.context
  pub initialised : after.initialised ≡ before.initialised
  pub standings : after.standings ≡ before.standings
  pub counts : HasSameCounts before.parts after.parts

-- The same, except for the availability of one servlet.
pub record StandsBut {S F L : Type 0} (place : ℕ) (standing : Standing) (before after : LiveState S F L) : Type 0 where
  pub context : after.context ≡ before.context
  pub initialised : after.initialised ≡ before.initialised
  pub standings : after.standings ≡ slice_set before.standings place standing
  pub counts : HasSameCounts before.parts after.parts

-- The result of a component, or the out-of-memory result if the journal is broken.
abbrev pub unless_broken : {A : Type 0} → JournalState → A → A → A
unless_broken journal no_memory answer = if journal.whole then answer else no_memory

module _ {S F L : Type 0} (moving : ComponentSteps S F L) where
  -- Only this call is made and journaled, and the availability of servlets does not change.
  pub record CallsOnce (before : LiveState S F L) (noted : JournalState) (call : Record) (after : LiveState S F L) (noted_after : JournalState) : Type 0 where
    pub made : Runs moving (live_world before noted) (call ∷ []) (live_world after noted_after)
    pub stands : StandsAsBefore before after

  -- The servlet at an index is called for one turn of the exchange.
  pub record Serves (before : LiveState S F L) (noted : JournalState) (place turn : ℕ) (exchange : State) (result : Step) (after : LiveState S F L) (noted_after : JournalState) (exchange_after : State) : Type 0 where
    pub step : Step
    pub calls : CallsOnce before noted (OfServlet place (Serviced exchange turn step exchange_after)) after noted_after
    pub answers : result ≡ unless_broken noted_after steps.NoMemory step

  -- `before` of the filter at an index is called.
  pub record Enters (before : LiveState S F L) (noted : JournalState) (place : ℕ) (exchange : State) (result : Gate) (after : LiveState S F L) (noted_after : JournalState) (exchange_after : State) : Type 0 where
    pub gate : Gate
    pub calls : CallsOnce before noted (OfFilter place (Entered exchange gate exchange_after)) after noted_after
    pub answers : result ≡ unless_broken noted_after gates.NoMemory gate

  -- `after` of the filter at an index is called.
  pub record Leaves (before : LiveState S F L) (noted : JournalState) (place : ℕ) (exchange : State) (result : Result (Unit {0}) NoMemory) (after : LiveState S F L) (noted_after : JournalState) (exchange_after : State) : Type 0 where
    pub done : Bool
    pub calls : CallsOnce before noted (OfFilter place (Left exchange done exchange_after)) after noted_after
    pub answers : is_ok result ≡ unless_broken noted_after false done

  -- The servlet at an index is destroyed, and is then gone.
  pub record Retires (before : LiveState S F L) (noted : JournalState) (place : ℕ) (after : LiveState S F L) (noted_after : JournalState) : Type 0 where
    pub made : Runs moving (live_world before noted) ((OfServlet place Destroyed) ∷ []) (live_world after noted_after)
    pub stands : StandsBut place Gone before after
