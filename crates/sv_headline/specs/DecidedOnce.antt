-- Access is decided once for each message: nothing within its dispatches depends on the constraints (Jakarta Servlet 6.0,
-- sections 9.1 and 13.8).
use Rattle.std.specs.Prelude.{List}
use Rattle.sv_component.specs.Runs.{Record}
use Rattle.sv_component.specs.Steps.{ComponentSteps}
use Rattle.sv_context.specs.State.{ContextState}
use Rattle.sv_headline.specs.Message.{IsLawfulMessage, MayEnter}
use Rattle.sv_headline.specs.Transitions.{under}
use Rattle.sv_policy.specs.Compiled.{Standing}
use Rattle.sv_run.specs.Contexts.{Handling}

-- the same handling, with the context under these constraints before and after it
abbrev pub handled_under : {S F L : Type 0} → Standing → Handling (ContextState S F L) → Handling (ContextState S F L)
handled_under constraints handling =
    record handling { context = under constraints handling.context; after = under constraints handling.after }

-- two contexts that differ only in their constraints, and that a message enters in both, allow the same calls, the same
-- entries, the same response and the same states afterwards
abbrev pub AccessIsDecidedOnce : {S F L : Type 0} → ComponentSteps S F L → Type 0
AccessIsDecidedOnce {S} {F} {L} moving =
    (handling : Handling (ContextState S F L)) (made : List Record) (constraints : Standing)
    → MayEnter handling.context handling.request → MayEnter (under constraints handling.context) handling.request
    → IsLawfulMessage moving handling made → IsLawfulMessage moving (handled_under constraints handling) made
