-- The `init` calls of a start, as far as it went.
use Rattle.std.specs.Prelude.{◌≡◌, ℕ, ◌<◌, true, false, List, [], ◌++◌, length, map, slice_set, take, None, IfSome}
use Rattle.std.specs.List.{All}
use Rattle.std.specs.Option.{option_to_list}
use Rattle.sv_component.specs.Runs.{Runs}
use Rattle.sv_component.specs.declared.answers.Init.{Init}
use Rattle.sv_component.specs.declared.answers.Init.TheVariants.{Ready, Unavailable, Failed, NoMemory}
use Rattle.sv_descriptor.specs.declared.web_app.WebApp.{WebApp}
use Rattle.sv_journal.specs.Journal.{JournalState}
use Rattle.sv_lifecycle.specs.Calls.{inited, initialised, lets_go_on, places_of}
use Rattle.sv_live.specs.Standing.{standing_at}
use Rattle.sv_lifecycle.specs.Standing.{standing_after}
use Rattle.sv_live.specs.World.{world}
use Rattle.sv_lifecycle.specs.declared.begin.Answered.{Answered}
use Rattle.sv_lifecycle.specs.declared.begin.Begun.{Begun}
use Rattle.sv_journal.specs.declared.calls.Place.{Place}
use Rattle.sv_journal.specs.declared.calls.Place.TheVariants.{Filter, Servlet}
use Rattle.sv_live.specs.declared.live.Parts.{Parts}
use Rattle.sv_lifecycle.specs.declared.plan.Plan.{Plan}
use Rattle.sv_component.specs.declared.standing.Standing.{Standing}
use Rattle.sv_component.specs.declared.standing.Standing.TheVariants.{Gone}
use Rattle.sv_component.specs.Steps.{ComponentSteps}

-- A servlet's index is within a list of this length.
abbrev pub HasStanding : ℕ → Place → Type 0
HasStanding count (Filter place) = Unit {0}
HasStanding count (Servlet place) = place < count

-- The availability of the servlets after one more result.
abbrev pub with_answer : List Standing → Place → Init → List Standing
with_answer standings (Servlet place) Unavailable = slice_set standings place Gone
with_answer standings (Servlet place) Ready = standings
with_answer standings (Servlet place) Failed = standings
with_answer standings (Servlet place) NoMemory = standings
with_answer standings (Filter place) answer = standings

-- The components of the plan are initialized until one stops the start or the journal breaks.
pub record Begins {S F L : Type 0} (moving : ComponentSteps S F L) (app : WebApp) (parts : Parts S F L) (plan : Plan) (noted : JournalState) (result : Begun) (parts_after : Parts S F L) (plan_after : Plan) (noted_after : JournalState) : Type 0 where
  pub begun : List Answered
  pub left : List Place
  pub front : plan.order.items ≡ places_of (begun ++ option_to_list result.stopper) ++ left
  pub goes : All (λ answered. lets_go_on answered.place answered.answer ≡ true) begun
  pub stops : IfSome result.stopper (λ answered. lets_go_on answered.place answered.answer ≡ false)
  pub whole : result.stopper ≡ None → noted_after.whole ≡ true → left ≡ []
  pub made : Runs moving
      (world plan.context parts noted) (map (inited app) (begun ++ option_to_list result.stopper)) (world plan.context parts_after noted_after)
  pub kept : take result.initialised plan_after.order.items ≡ initialised begun
  pub standings : (place : ℕ) → place < length plan.standings.items → standing_at plan_after.standings.items place ≡ standing_after begun place
  pub rooms : length plan_after.standings.items ≡ length plan.standings.items
  pub context : plan_after.context ≡ plan.context
