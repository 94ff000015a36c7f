-- The effect of a query on an event handler.
use Rattle.std.specs.Prelude.{◌≡◌, ◌⊎◌, ℕ, List, Option, None, Some, Result, Ok, Err}
use Rattle.sv_connection.specs.Polling.{Answer, Polling}
use Rattle.sv_connection.specs.declared.queries.Figures.{Figures}
use Rattle.sv_policy.specs.declared.edit.Edit.{Edit}
use Rattle.sv_run.specs.Events.{Edited}
use Rattle.sv_run.specs.Reacting.{Reacting}
use Rattle.sv_run.specs.declared.happening.Reaction.{Reaction}
use Rattle.sv_run.specs.declared.step_fault.StepFault.{StepFault}

-- The text that explains a request, by its method, target, and user or without a caller; none if this is not known.
abbrev pub Explaining : Type 0 → Type 0
Explaining R = R → List ℕ → List ℕ → Option (List ℕ) → Option (List ℕ)

-- The text about a handler's state, if any.
abbrev pub Saying : Type 0 → Type 0
Saying R = R → Option (List ℕ)

-- No event was taken, or one, which edits the constraints of a context; or this edit was refused.
abbrev pub EditsOnce : {R A : Type 0} → Reacting R → R → Result A StepFault → R → Type 0
EditsOnce steps before (Ok done) after =
    (after ≡ before) ⊎ ((path : List ℕ) × (edit : Edit) × (reaction : Reaction) × steps before (Edited path edit) (Ok reaction) after)
EditsOnce steps before (Err fault) after = (path : List ℕ) × (edit : Edit) × steps before (Edited path edit) (Err fault) after

-- The handler takes or refuses the edit that was asked for. If none was, nothing changes.
abbrev pub TakesAsked : {R A : Type 0} → Reacting R → Option (List ℕ × Edit) → R → Result A StepFault → R → Type 0
TakesAsked steps None before (Ok done) after = after ≡ before
TakesAsked steps None before (Err fault) after = ⊥
TakesAsked steps (Some (path, edit)) before (Ok done) after = (reaction : Reaction) × steps before (Edited path edit) (Ok reaction) after
TakesAsked steps (Some (path, edit)) before (Err fault) after = steps before (Edited path edit) (Err fault) after

-- A poller answers a query by figures and by a handler, which takes or refuses the edit that the query asked for.
abbrev pub AnswersOne : {R N S A : Type 0} → Reacting R → Polling N S → Figures → N → R → Result A StepFault → N → R → Type 0
AnswersOne steps polls figures poller handler result poller_after handler_after =
    (asked : Option (List ℕ × Edit)) × polls poller (Answer figures asked) poller_after × TakesAsked steps asked handler result handler_after
