-- Requests that the classes of the program hand over to an application behind a proxy.
use Rattle.std.specs.Prelude.{◌≡◌, ◌≢◌, ℕ, List, ◌∷◌, ◌++◌, Option, None, Some, slice_get}
use Rattle.std.specs.List.{AllByRecursion}
use Rattle.sv_component.specs.Call.{Serviced}
use Rattle.sv_component.specs.Runs.{OfServlet, Record}
use Rattle.sv_component.specs.Steps.{ComponentSteps, steps_of}
use Rattle.sv_component.specs.declared.components.Named.{Named}
use Rattle.sv_context.specs.State.{ContextState}
use Rattle.sv_deployments.specs.FilterClasses.{FilterSteps}
use Rattle.sv_deployments.specs.ListenerClasses.{HearsAs}
use Rattle.sv_deployments.specs.ServletClasses.{ServletKind, HandsOver, EndsLogins, LeavesBoth, ServletSteps, kind_of}
use Rattle.sv_deployments.specs.declared.program_filter.ProgramFilter.{ProgramFilter}
use Rattle.sv_deployments.specs.declared.program_listener.ProgramListener.{ProgramListener}
use Rattle.sv_deployments.specs.declared.program_servlet.ProgramServlet.{ProgramServlet}
use Rattle.sv_headline.specs.HandedOver.{OnlyEntriesAreHandedOver, OthersLeaveCaller}
use Rattle.sv_headline.specs.Record.{IsLawfulRun}
use Rattle.sv_headline.specs.Transitions.{ContextAnswer, Transition}
use Rattle.sv_run.specs.Contexts.{Handling}
use Rattle.sv_run.specs.Events.{Happening}
use Rattle.sv_run.specs.Runs.{Answer}
use Rattle.sv_run.specs.State.{State}

-- the steps of the classes of the program
abbrev pub program_steps : ComponentSteps ProgramServlet ProgramFilter ProgramListener
program_steps = steps_of ServletSteps FilterSteps HearsAs

-- the internal location of a servlet of the class `Application`
abbrev pub location_in : ServletKind → Option (List ℕ)
location_in (HandsOver location) = Some location
location_in EndsLogins = None
location_in LeavesBoth = None

abbrev pub location_of : ProgramServlet → Option (List ℕ)
location_of servlet = location_in (kind_of servlet)

-- in each message of a lawful run of these classes, a response names an internal location only if its request enters and a
-- servlet of the class `Application` hands it over, with its own target and cookies
abbrev pub TheProgramHandsOverOnlyEntries : {Words : Type 0} → (Words → ℕ × ℕ → Words → Type 0) → Type 0
TheProgramHandsOverOnlyEntries draws = OnlyEntriesAreHandedOver program_steps location_of draws

abbrev pub ProgramContext : Type 0
ProgramContext = ContextState ProgramServlet ProgramFilter ProgramListener

-- the call serves no request by a servlet of a class that may remove the caller
abbrev pub IsNoEndOfLogins : ProgramContext → Record → Type 0
IsNoEndOfLogins context (OfServlet place (Serviced before turn step after)) =
    (servlet : Named ProgramServlet) → slice_get context.servlets place ≡ Some servlet → kind_of servlet.component ≢ EndsLogins
IsNoEndOfLogins context other = Unit {0}

-- in each message of a lawful run that calls no such servlet, the other components undo no login
abbrev pub TheProgramUndoesNoLogins : {Words : Type 0} → (Words → ℕ × ℕ → Words → Type 0) → Type 0
TheProgramUndoesNoLogins {Words} draws =
    (before after : State ProgramContext Words) (happenings : List Happening) (answers : List (Answer ProgramContext))
    (lawful : IsLawfulRun program_steps draws before happenings answers after) (earlier later : List (Transition ProgramServlet ProgramFilter ProgramListener))
    (place : ℕ) (text : List ℕ) (handling : Handling ProgramContext) (made : List Record)
    → lawful.transitions ≡ earlier ++ ContextAnswer place handling made text ∷ later
    → AllByRecursion (IsNoEndOfLogins handling.context) made
    → OthersLeaveCaller program_steps location_of handling.context made
