-- The steps of the classes of the program: those of `Application`, or steps that leave the fields that a proxy reads, and
-- the caller but for two classes.
use Rattle.std.proofs.Common.{◌≡◌, ◌≢◌, ◌⊎◌, inl, inr, ℕ, List, [], ◌∷◌, None, Some, refl, sym, ◌∙◌, slice_get, subst}
use Rattle.std.proofs.lemmas.Option.{same_Some}
use Rattle.std.specs.List.{AllByRecursion}
use Rattle.sv_application.specs.ProxyFields.{OnExchange, SameProxyFields}
use Rattle.sv_application.specs.Serving.{Steps}
use Rattle.sv_component.specs.Call.{Call, Inited, Serviced, Entered, Left, Heard, Destroyed}
use Rattle.sv_component.specs.Runs.{OfFilter, OfListener, OfServlet, Record}
use Rattle.sv_component.specs.declared.components.Named.{Named}
use Rattle.sv_deployments.proofs.Leaving.{call_fields_stay, caller_stays}
use Rattle.sv_deployments.specs.Leaving.{LeavesCaller}
use Rattle.sv_deployments.specs.ServletClasses.{ServletKind, HandsOver, EndsLogins, LeavesBoth, StepsAs, kind_of}
use Rattle.sv_deployments.specs.declared.program_servlet.ProgramServlet.{ProgramServlet}
use Rattle.sv_exchange.specs.State as exchanges
use Rattle.sv_headline.proofs.RefutingRuns.{message_of}
use Rattle.sv_headline.proofs.StepsLeaving.{OthersLeave, ServesNothingAt, others_leave}
use Rattle.sv_headline.specs.HandedOver.{StepAsApplications, StepsHandOverOnlyEntries, StepsLeaveFields}
use Rattle.sv_headline.specs.ProgramHandsOver.{IsNoEndOfLogins, ProgramContext, TheProgramHandsOverOnlyEntries, TheProgramUndoesNoLogins, location_in, location_of, program_steps}
use Rattle.sv_tree.proofs.Doing.{absurd_result}

kind_steps_as : (before after : ServletKind) (call : Call) (internal : List ℕ) → location_in before ≡ Some internal → StepsAs before call after
    → (later : List ℕ) × (location_in after ≡ Some later) × Steps internal call later
kind_steps_as (HandsOver first) (HandsOver last) call internal is steps = (last, refl, subst (λ location. Steps location call last) (same_Some first internal is) steps)
kind_steps_as (HandsOver first) EndsLogins call internal is steps = absurd steps
kind_steps_as (HandsOver first) LeavesBoth call internal is steps = absurd steps
kind_steps_as EndsLogins after call internal is steps = absurd_result internal is
kind_steps_as LeavesBoth after call internal is steps = absurd_result internal is

kind_leaves : (before after : ServletKind) (call : Call) → location_in before ≡ None → StepsAs before call after
    → (location_in after ≡ None) × OnExchange SameProxyFields call
kind_leaves (HandsOver first) after call none steps = absurd_result first (sym none)
kind_leaves EndsLogins (HandsOver last) call none steps = absurd steps
kind_leaves EndsLogins EndsLogins call none steps = (refl, call_fields_stay call steps)
kind_leaves EndsLogins LeavesBoth call none steps = absurd steps
kind_leaves LeavesBoth (HandsOver last) call none steps = absurd steps
kind_leaves LeavesBoth EndsLogins call none steps = absurd steps
kind_leaves LeavesBoth LeavesBoth call none steps = (refl, call_fields_stay call steps.0)

steps_as : StepAsApplications program_steps location_of
steps_as before after call internal is steps = kind_steps_as (kind_of before) (kind_of after) call internal is steps

steps_leave : StepsLeaveFields program_steps location_of
steps_leave = record {
  servlets = λ before after call none steps. kind_leaves (kind_of before) (kind_of after) call none steps;
  filters = λ before after call steps. call_fields_stay call steps.0;
}

pub the_program_hands_over_only_entries : {Words : Type 0} (draws : Words → ℕ × ℕ → Words → Type 0) → StepsHandOverOnlyEntries program_steps draws
    → TheProgramHandsOverOnlyEntries draws
the_program_hands_over_only_entries draws law = law location_of steps_as steps_leave

-- ---- the caller

abbrev SameCaller : exchanges.State → exchanges.State → Type 0
SameCaller before after = after.caller ≡ before.caller

call_caller_stays : (call : Call) → OnExchange LeavesCaller call → OnExchange SameCaller call
call_caller_stays (Serviced before turn step after) leaves = caller_stays before after leaves
call_caller_stays (Entered before gate after) leaves = caller_stays before after leaves
call_caller_stays (Left before done after) leaves = caller_stays before after leaves
call_caller_stays (Inited config init) leaves = tt
call_caller_stays (Heard event) leaves = tt
call_caller_stays Destroyed leaves = tt

not_ending : LeavesBoth ≢ EndsLogins
not_ending same = cc

hands_not_ending : (location : List ℕ) → HandsOver location ≢ EndsLogins
hands_not_ending location same = cc

kind_keeps : (before after : ServletKind) (call : Call) → location_in before ≡ None → before ≢ EndsLogins → StepsAs before call after
    → (location_in after ≡ None) × ((after ≢ EndsLogins) × OnExchange SameCaller call)
kind_keeps (HandsOver first) after call none fair steps = absurd_result first (sym none)
kind_keeps EndsLogins after call none fair steps = absurd (fair refl)
kind_keeps LeavesBoth (HandsOver last) call none fair steps = absurd steps
kind_keeps LeavesBoth EndsLogins call none fair steps = absurd steps
kind_keeps LeavesBoth LeavesBoth call none fair steps = (refl, (not_ending, call_caller_stays call steps.1))

abbrev EndsNoLogin : ProgramServlet → Type 0
EndsNoLogin servlet = kind_of servlet ≢ EndsLogins

-- the servlet at a place of the context is of a class that may remove the caller
abbrev EndsLoginsAt : ProgramContext → ℕ → Type 0
EndsLoginsAt context place = (servlet : Named ProgramServlet) × (slice_get context.servlets place ≡ Some servlet) × (kind_of servlet.component ≡ EndsLogins)

by_kind : (context : ProgramContext) (place : ℕ) (servlet : Named ProgramServlet) → slice_get context.servlets place ≡ Some servlet
    → (kind : ServletKind) → kind_of servlet.component ≡ kind → EndsLoginsAt context place ⊎ EndsNoLogin servlet.component
by_kind context place servlet there (HandsOver location) is = inr (λ ends. hands_not_ending location (sym is ∙ ends))
by_kind context place servlet there EndsLogins is = inl (servlet, there, is)
by_kind context place servlet there LeavesBoth is = inr (λ ends. not_ending (sym is ∙ ends))

spared_serve : (context : ProgramContext) (made : List Record) → AllByRecursion (IsNoEndOfLogins context) made
    → AllByRecursion (ServesNothingAt (EndsLoginsAt context)) made
spared_serve context [] fair = tt
spared_serve context (OfServlet place (Serviced before turn step after) ∷ others) fair =
    (λ spared. fair.0 spared.0 spared.1 spared.2, spared_serve context others fair.1)
spared_serve context (OfServlet place (Inited config init) ∷ others) fair = (tt, spared_serve context others fair.1)
spared_serve context (OfServlet place (Entered before gate after) ∷ others) fair = (tt, spared_serve context others fair.1)
spared_serve context (OfServlet place (Left before done after) ∷ others) fair = (tt, spared_serve context others fair.1)
spared_serve context (OfServlet place (Heard event) ∷ others) fair = (tt, spared_serve context others fair.1)
spared_serve context (OfServlet place Destroyed ∷ others) fair = (tt, spared_serve context others fair.1)
spared_serve context (OfFilter place call ∷ others) fair = (tt, spared_serve context others fair.1)
spared_serve context (OfListener place event ∷ others) fair = (tt, spared_serve context others fair.1)

steps_keep : (context : ProgramContext) → OthersLeave program_steps location_of SameCaller EndsNoLogin (EndsLoginsAt context)
steps_keep context = record {
  servlets = λ before after call none fair steps. kind_keeps (kind_of before) (kind_of after) call none fair steps;
  filters = λ before after call steps. call_caller_stays call steps.1;
}

pub the_program_undoes_no_logins : {Words : Type 0} (draws : Words → ℕ × ℕ → Words → Type 0) → TheProgramUndoesNoLogins draws
the_program_undoes_no_logins draws before after happenings answers lawful earlier later place text handling made is fair =
    others_leave program_steps location_of SameCaller EndsNoLogin (EndsLoginsAt handling.context) handling made (steps_keep handling.context)
    (message_of program_steps draws before after happenings answers lawful earlier later place handling made text is).3
    (λ its_place servlet there. by_kind handling.context its_place servlet there (kind_of servlet.component) refl) (spared_serve handling.context made fair)
