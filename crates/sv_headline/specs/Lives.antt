-- The lives of components over every list of events (Jakarta Servlet 6.0, sections 2.3.3.2 and 2.3.4).
use Rattle.std.specs.Prelude.{◌≡◌, ℕ, zero, suc, List, [], ◌∷◌, length}
use Rattle.sv_component.specs.Runs.{IsRun, Record}
use Rattle.sv_component.specs.Steps.{ComponentSteps}
use Rattle.sv_context.specs.Conduct.{conduct, unnoted}
use Rattle.sv_context.specs.Retiring.{Retires}
use Rattle.sv_context.specs.State.{ContextState, world_of}
use Rattle.sv_run.specs.Contexts.{Conduct}
use Rattle.sv_run.specs.Events.{AltersAll}

-- a number of events alter the contexts one after another, each as a step of a container may, accepted or refused
abbrev pub AltersInTurn : {Context : Type 0} → Conduct Context → ℕ → List Context → List Context → Type 0
AltersInTurn moved_so zero before after = after ≡ before
AltersInTurn {Context} moved_so (suc events) before after =
    (between : List Context) × AltersAll moved_so before between × AltersInTurn moved_so events between after

module _ {S F L : Type 0} (moving : ComponentSteps S F L) where
  -- only calls move the components of a context; a servlet that was gone before is not called; one that becomes gone is
  -- destroyed, once and last; no other servlet is destroyed, and no filter is; their numbers stay the same
  pub record Lives (before after : ContextState S F L) : Type 0 where
    pub made : List Record
    pub runs : IsRun moving (world_of before unnoted) made (world_of after unnoted)
    pub retires : Retires before.standings made after.standings
    pub initialised : after.initialised ≡ before.initialised
    pub servlets : length after.servlets ≡ length before.servlets
    pub filters : length after.filters ≡ length before.filters
    pub listeners : length after.listeners ≡ length before.listeners

  abbrev pub AllLive : List (ContextState S F L) → List (ContextState S F L) → Type 0
  AllLive [] after = after ≡ []
  AllLive (context ∷ contexts) after =
      (last : ContextState S F L) × (others : List (ContextState S F L)) × Lives context last × AllLive contexts others × (after ≡ last ∷ others)

  -- over any number of events, each context satisfies `Lives`
  abbrev pub ComponentsAreDestroyedOnce : Type 0
  ComponentsAreDestroyedOnce =
      (events : ℕ) (before after : List (ContextState S F L)) → AltersInTurn (conduct moving) events before after
      → AllLive before after
