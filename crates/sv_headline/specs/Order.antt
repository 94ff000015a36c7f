-- The order of a context's sessions (Jakarta Servlet 6.0, chapter 7): no two have the same number, so a lookup by
-- number finds the session that holds a caller.
use Rattle.std.specs.Prelude.{◌≡◌, ℕ, List, [], Ok}
use Rattle.sv_component.specs.Steps.{ComponentSteps}
use Rattle.sv_context.specs.Conduct.{conduct}
use Rattle.sv_context.specs.Deployment.{Deploys}
use Rattle.sv_context.specs.State.{ContextState}
use Rattle.sv_lifecycle.specs.declared.deployment.Deployment.{Deployment}
use Rattle.sv_journal.specs.Journal.{JournalState}
use Rattle.sv_journal.specs.declared.entry.Entry.{Entry}
use Rattle.sv_run.specs.Contexts.{Handling}
use Rattle.sv_session.specs.Store.{IsOrderly}

-- the sessions are in order at first, when there are none, and each request and each expiry keeps the order
pub record SessionsStayInOrder {S F L : Type 0} (moving : ComponentSteps S F L) : Type 0 where
  pub begins : (deployment : Deployment S F L) (context : ContextState S F L) (noted noted_after : JournalState)
      → Deploys moving deployment noted (Ok context) noted_after → (context.store.sessions ≡ []) × IsOrderly context.store
  pub handles : (handling : Handling (ContextState S F L))
      → (conduct moving).Handles handling → IsOrderly handling.context.store → IsOrderly handling.after.store
  pub expires : (context after : ContextState S F L) (moment : ℕ) (told : List Entry)
      → (conduct moving).Expires context moment told after → IsOrderly context.store → IsOrderly after.store
