-- The output of all connections that an event loop serves at once, from the bytes that are read to those that are
-- written (RFC 9112, section 9; Jakarta Servlet 6.0, section 13.8).
use Rattle.std.specs.Prelude.{◌≡◌, ℕ, false, filter, map, Result}
use Rattle.std.specs.List.{AllByRecursion}
use Rattle.sv_component.specs.Steps.{ComponentSteps}
use Rattle.sv_connection.specs.LoopRuns.{IsARunOfAll}
use Rattle.sv_connection.specs.Polling.{Polling}
use Rattle.sv_connection.specs.Ways.{Ways}
use Rattle.sv_connection.specs.Whole.{Serves}
use Rattle.sv_connection.specs.declared.limits.Limits.{Limits}
use Rattle.sv_context.specs.State.{ContextState}
use Rattle.sv_context.specs.Theory.{theory}
use Rattle.sv_headline.specs.Until.{IsLawfulUntilRefused}
use Rattle.sv_run.specs.Lawful.{is_outcome}
use Rattle.sv_run.specs.Laws.{EntersWhereAllowed, deed_entry}
use Rattle.sv_run.specs.Reacting.{Reacting, StepsLike}
use Rattle.sv_run.specs.Runs.{deeds_of, journal_of}
use Rattle.sv_run.specs.State.{State}
use Rattle.sv_run.specs.declared.step_fault.StepFault.{StepFault}
use Rattle.sv_wire.specs.declared.inbox.Awaited.{Awaited}

module _ {S F L W R N C P : Type 0} (moving : ComponentSteps S F L) (draws : W → ℕ × ℕ → W → Type 0) (ways : Ways P) (steps : Reacting R)
    (tells : C → ℕ → C → Type 0) (polls : Polling N P) where
  -- The events of all connections are a run of the container, which sends each of them the bytes written to it. The
  -- entries of the run report the outcome of each message once, in order. A request enters exactly if the combined
  -- constraints allow it. If the container was running, the run is lawful until memory runs out.
  pub record IsServedLawfully (state_of : R → State (ContextState S F L) W) (handler : R) (poller : N) (clock : C) (result : Result (Unit {0}) StepFault)
      (handler_after : R) (poller_after : N) (clock_after : C) : Type 0 where
    pub served : IsARunOfAll ways steps tells polls (theory moving draws) state_of handler poller clock result handler_after poller_after clock_after
    pub outcomes : filter is_outcome (journal_of served.answered) ≡ map (deed_entry (theory moving draws)) (deeds_of served.answered)
    pub entered : AllByRecursion (EntersWhereAllowed (theory moving draws)) (deeds_of served.answered)
    pub lawful : (state_of handler).stopped ≡ false
        → IsLawfulUntilRefused moving draws (state_of handler) served.happenings served.answered (state_of handler_after)

  abbrev pub WhatAnEventLoopDoesIsLawful : (R → ℕ → Awaited) → Type 0
  WhatAnEventLoopDoesIsLawful awaits =
      (state_of : R → State (ContextState S F L) W) → StepsLike steps (theory moving draws) state_of
      → (limits : Limits) (handler handler_after : R) (poller poller_after : N) (clock clock_after : C) (result : Result (Unit {0}) StepFault)
      → Serves ways steps awaits tells polls limits handler poller clock result handler_after poller_after clock_after
      → IsServedLawfully state_of handler poller clock result handler_after poller_after clock_after
