-- What a query asked for, from the line that the control socket holds and what the handler took.
use Rattle.std.proofs.Common.{◌≡◌, ℕ, List, Option, None, Some, Result, Ok, Err, refl}
use Rattle.sv_connection.specs.Asking.{Explaining, Saying, TakesAsked}
use Rattle.sv_connection.specs.declared.queries.Figures.{Figures}
use Rattle.sv_policy.specs.declared.edit.Edit.{Edit}
use Rattle.sv_readiness.specs.Asking.{RepliesTo, ask_of}
use Rattle.sv_readiness.specs.Polling.{Asks, RepliesIfAny}
use Rattle.sv_readiness.specs.declared.control.Control.{Control}
use Rattle.sv_readiness.specs.declared.control_commands.Ask.{Ask}
use Rattle.sv_readiness.specs.declared.control_commands.Ask.TheVariants.{Constraints, Explain, Status, Uncovered, Unknown}
use Rattle.sv_readiness.specs.declared.control_commands.Ask.TheVariants as ask
use Rattle.sv_run.specs.Reacting.{Reacting}
use Rattle.sv_run.specs.declared.step_fault.StepFault.{StepFault}
use Rattle.sv_text.specs.declared.no_memory.NoMemory.{NoMemory}

module _ {R : Type 0} (steps : Reacting R) (explains : Explaining R) (uncovers constrains stands : Saying R) (figures : Figures) where
  -- the edit that the line asks for is taken, refused, or left for want of memory
  abbrev Taken : Option Control → R → Result (Unit {0}) StepFault → R → Type 0
  Taken control before result after = (asked : Option (List ℕ × Edit)) × Asks control asked × TakesAsked steps asked before result after

  done_by : (control : Control) (before after : R) (its : Ask) (said : Result (List ℕ) NoMemory) → ask_of control.line.items ≡ its
      → RepliesTo before steps explains uncovers constrains stands figures control.offset its (Ok said) after
      → Taken (Some control) before (Ok tt) after
  done_by control before after Status said is replies = (None, tt, replies.1)
  done_by control before after Constraints said is replies = (None, tt, replies.1)
  done_by control before after Uncovered said is replies = (None, tt, replies.1)
  done_by control before after (Explain method target user) said is replies = (None, tt, replies.1)
  done_by control before after Unknown said is replies = (None, tt, replies.1)
  done_by control before after (ask.Edit path edit) (Ok text) is replies = (Some (path, edit), is, (replies.0, replies.1))
  done_by control before after (ask.Edit path edit) (Err refused) is replies = (None, tt, replies)

  refused_by : (control : Control) (before after : R) (its : Ask) (fault : StepFault) → ask_of control.line.items ≡ its
      → RepliesTo before steps explains uncovers constrains stands figures control.offset its (Err fault) after
      → Taken (Some control) before (Err fault) after
  refused_by control before after Status fault is replies = absurd replies
  refused_by control before after Constraints fault is replies = absurd replies
  refused_by control before after Uncovered fault is replies = absurd replies
  refused_by control before after (Explain method target user) fault is replies = absurd replies
  refused_by control before after Unknown fault is replies = absurd replies
  refused_by control before after (ask.Edit path edit) fault is replies = (Some (path, edit), is, replies)

  pub as_asked : (control : Option Control) (before after : R) (result : Result (Unit {0}) StepFault)
      → RepliesIfAny before steps explains uncovers constrains stands figures control result after
      → (asked : Option (List ℕ × Edit)) × Asks control asked × TakesAsked steps asked before result after
  as_asked None before after (Ok done) replies = (None, tt, replies.1)
  as_asked None before after (Err fault) replies = absurd (apart replies.0)
    where
      apart : ◌≡◌ {A = Result (Unit {0}) StepFault} (Err fault) (Ok tt) → ⊥
      apart same = absurd (cc)
  as_asked (Some control) before after (Ok done) replies = done_by control before after (ask_of control.line.items) replies.0 refl replies.1
  as_asked (Some control) before after (Err fault) replies = refused_by control before after (ask_of control.line.items) fault refl replies
