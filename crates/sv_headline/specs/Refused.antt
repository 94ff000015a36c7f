-- The effects of an event that runs out of memory on servlets and filters (Jakarta Servlet 6.0, sections 6.2, 9.4,
-- 10.9.2 and 13.6.3).
use Rattle.std.specs.Prelude.{◌≡◌, ℕ, Bool, true, false, List, Some, None, map, slice_get}
use Rattle.std.specs.List.{AllByRecursion}
use Rattle.sv_admission.specs.declared.answer.Answer.{Answer}
use Rattle.sv_admission.specs.declared.answer.Answer.TheVariants.{Entered, Page, Error, SeeOther}
use Rattle.sv_component.specs.declared.components.Named.{Named}
use Rattle.sv_component.specs.Steps.{ComponentSteps}
use Rattle.sv_context.specs.Conduct.{asked_of}
use Rattle.sv_context.specs.Handled.{admitted}
use Rattle.sv_context.specs.State.{ContextState}
use Rattle.sv_context.specs.Theory.{theory}
use Rattle.sv_run.specs.Contexts.{Request}
use Rattle.sv_run.specs.Events.{Breaks, Happening}
use Rattle.sv_run.specs.State.{State}

-- whether an answer is a dispatch: of the request, to a page of form login, or to the page of an error
abbrev pub is_dispatch : Answer → Bool
is_dispatch Entered = true
is_dispatch (Page page) = true
is_dispatch (Error status None) = false
is_dispatch (Error status (Some page)) = true
is_dispatch (SeeOther location) = false

-- whether the answer to the request, as admitted, is a dispatch
abbrev pub is_dispatched : {S F L : Type 0} → ContextState S F L → Request → Bool
is_dispatched context request = is_dispatch (admitted context (asked_of context request)).answer

abbrev pub servlets_and_filters : {S F L : Type 0} → ContextState S F L → List (Named S) × List (Named F)
servlets_and_filters context = (context.servlets, context.filters)

module _ {S F L Words : Type 0} (moving : ComponentSteps S F L) (draws : Words → ℕ × ℕ → Words → Type 0) where
  -- an event that runs out of memory, however far it came, leaves the servlets and filters of a context unchanged if
  -- it dispatched none of the context's requests
  abbrev pub TheUndispatchedCallNone : Type 0
  TheUndispatchedCallNone =
      (before after : State (ContextState S F L) Words) (happening : Happening)
      (breaks : Breaks (theory moving draws) before happening after) (place : ℕ)
      → AllByRecursion (λ given. given.place ≡ place → is_dispatched given.context given.request ≡ false) breaks.given
      → slice_get (map servlets_and_filters after.world.contexts) place ≡ slice_get (map servlets_and_filters before.world.contexts) place
