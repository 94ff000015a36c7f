-- An edit of a deployed context's constraints (Jakarta Servlet 6.0, section 13.8).
use Rattle.std.specs.Prelude.{◌≡◌, ℕ, Result}
use Rattle.sv_policy.specs.Edits.{GivesOutcome, edit_outcome}
use Rattle.sv_policy.specs.declared.edit.Edit.{Edit}
use Rattle.sv_policy.specs.declared.edit_fault.EditFault.{EditFault}
use Rattle.sv_context.specs.State.{ContextState}

-- The answer and the new constraints are those of the edit's outcome, and nothing else changes.
pub record Edits {S F L : Type 0} (before : ContextState S F L) (edit : Edit) (answer : Result ℕ EditFault) (after : ContextState S F L) : Type 0 where
  pub outcome : GivesOutcome before.policy after.policy answer (edit_outcome before.policy edit)
  pub stays : after ≡ record before { policy = after.policy }
