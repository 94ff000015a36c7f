-- Starts of contexts (Jakarta Servlet 6.0, sections 2.3, 6.2.1 and 11.3): the calls made, and the result.
use Rattle.std.specs.Prelude.{◌≡◌, ℕ, ◌<◌, Bool, true, false, List, [], ◌++◌, length, Option, None, Some, IfSome, Result, Ok, Err}
use Rattle.std.specs.List.{All}
use Rattle.std.specs.Option.{option_to_list}
use Rattle.sv_component.specs.Runs.{Record, Runs}
use Rattle.sv_component.specs.declared.answers.Init.{Init}
use Rattle.sv_component.specs.declared.answers.Init.TheVariants as init_answers
use Rattle.sv_component.specs.Steps.{ComponentSteps}
use Rattle.sv_descriptor.specs.declared.web_app.WebApp.{WebApp}
use Rattle.sv_journal.specs.Journal.{JournalState}
use Rattle.sv_lifecycle.specs.Calls.{initialised, lets_go_on, places_of, start_calls, undone_calls}
use Rattle.sv_lifecycle.specs.Fit.{Fits}
use Rattle.sv_lifecycle.specs.Order.{IsLoadOrder, init_order}
use Rattle.sv_live.specs.Standing.{LiveState, standing_at}
use Rattle.sv_lifecycle.specs.Standing.{standing_after}
use Rattle.sv_live.specs.World.{world}
use Rattle.sv_journal.specs.declared.calls.Place.{Place}
use Rattle.sv_live.specs.declared.live.Parts.{Parts}
use Rattle.sv_journal.specs.declared.start_code.StartCode.{StartCode}
use Rattle.sv_journal.specs.declared.start_code.StartCode.TheVariants.{PartsMismatch, InitFailed, NoMemory}
use Rattle.sv_lifecycle.specs.declared.begin.Answered.{Answered}
use Rattle.sv_lifecycle.specs.declared.start_fault.StartFault.{StartFault}

-- The `init` calls of a start.
pub record Inits : Type 0 where
  -- The indexes of the servlets in load-on-startup order.
  pub order : List ℕ
  -- The components whose `init` let the start continue.
  pub begun : List Answered
  -- The next component, which stopped the start, if any.
  pub stopper : Option Answered

-- All components whose `init` was called.
abbrev pub called : Inits → List Answered
called inits = inits.begun ++ option_to_list inits.stopper

-- The outcome of a start: no component was called, the start was undone, or the context is running.
pub data Outcome : Type 0 where
  Untouched : Outcome
  Undone : Inits → Outcome
  Started : Inits → Outcome

-- The calls that were made.
abbrev pub calls_of : WebApp → Outcome → List Record
calls_of app Untouched = []
calls_of app (Undone inits) = undone_calls app (called inits)
calls_of app (Started inits) = start_calls app inits.begun

-- Components are initialized in order, until one stops the start.
pub record GoesInOrder (app : WebApp) (inits : Inits) : Type 0 where
  pub order : IsLoadOrder app.servlets inits.order
  pub left : List Place
  pub front : init_order app inits.order ≡ places_of (called inits) ++ left
  pub begun : All (λ answered. lets_go_on answered.place answered.answer ≡ true) inits.begun
  pub stopper : IfSome inits.stopper (λ answered. lets_go_on answered.place answered.answer ≡ false)

-- The context is running: every `init` was called, none stopped the start, and the journal is whole.
pub record Stands {S F L : Type 0} (its_context : List ℕ) (app : WebApp) (inits : Inits) (live : LiveState S F L) (after : JournalState) : Type 0 where
  pub goes : GoesInOrder app inits
  pub none_left : goes.left ≡ []
  pub none_failed : inits.stopper ≡ None
  pub journal : after.whole ≡ true
  pub context : live.context ≡ its_context
  pub servlets : length live.parts.servlets.items ≡ length app.servlets
  pub filters : length live.parts.filters.items ≡ length app.filters
  pub listeners : length live.parts.listeners.items ≡ length app.listeners
  pub initialised : live.initialised ≡ initialised inits.begun
  pub standings : (place : ℕ) → place < length app.servlets → standing_at live.standings place ≡ standing_after inits.begun place

-- The reason why no component was called. A mismatch takes precedence.
abbrev pub RefusesUntouched : {S F L : Type 0} → WebApp → Parts S F L → StartCode → Type 0
RefusesUntouched app parts PartsMismatch = Fits app parts → ⊥
RefusesUntouched app parts (InitFailed place) = ⊥
RefusesUntouched app parts NoMemory = Fits app parts

-- The reason of the component at a place, whose result stopped the start: it failed, or it ran out of memory.
abbrev pub code_at : Place → Init → StartCode
code_at place init_answers.NoMemory = NoMemory
code_at place answer = InitFailed place

-- The reason for an undone start: that of the component that stopped it, unless the journal is broken.
abbrev pub code_of : Option Answered → Bool → StartCode
code_of (Some answered) true = code_at answered.place answered.answer
code_of stopper whole = NoMemory

-- A start was undone because a component stopped it or the journal broke, and the code is the reason.
pub record RefusesUndone (inits : Inits) (code : StartCode) (after : JournalState) : Type 0 where
  pub is_code : code ≡ code_of inits.stopper after.whole
  pub has_cause : inits.stopper ≡ None → after.whole ≡ false

-- The result of a start with this outcome.
abbrev pub IsResultOf : {S F L : Type 0} → List ℕ → WebApp → Parts S F L → Outcome → Result (LiveState S F L) (StartFault S F L) → JournalState → Type 0
IsResultOf context app parts (Started inits) (Ok live) after = Fits app parts × Stands context app inits live after
IsResultOf context app parts (Undone inits) (Err fault) after = Fits app parts × GoesInOrder app inits × RefusesUndone inits fault.code after
IsResultOf context app parts Untouched (Err fault) after = RefusesUntouched app parts fault.code
IsResultOf context app parts (Started inits) (Err fault) after = ⊥
IsResultOf context app parts (Undone inits) (Ok live) after = ⊥
IsResultOf context app parts Untouched (Ok live) after = ⊥

-- The components after the start.
abbrev pub parts_in : {S F L : Type 0} → Result (LiveState S F L) (StartFault S F L) → Parts S F L
parts_in (Ok live) = live.parts
parts_in (Err fault) = fault.parts

-- A start: exactly these calls are made of the components, and the result contains them.
pub record Starts {S F L : Type 0} (moving : ComponentSteps S F L) (context : List ℕ) (app : WebApp) (parts : Parts S F L) (before : JournalState) (result : Result (LiveState S F L) (StartFault S F L)) (after : JournalState) : Type 0 where
  pub outcome : Outcome
  pub made : Runs moving (world context parts before) (calls_of app outcome) (world context (parts_in result) after)
  pub is : IsResultOf context app parts outcome result after
