use Rattle.std.proofs.Common.{◌≡◌, ◌+◌, ◌≤◌, List, ◌++◌, length, vec_capacity}
use Rattle.sv_context.specs.State.{ContextState}
use Rattle.sv_context.specs.Suspending.{SuspendsAll}
use Rattle.sv_lifecycle.specs.declared.suspended_context.SuspendedContext.{SuspendedContext}
use Rattle.sv_live.specs.declared.live.Parts.{Parts}
use Rattle.sv_context.proofs.suspension.suspend_each.Given as goal
use Rattle.sv_component.specs.Steps.{steps_of}

abbrev pub decreases-loop-context : goal.decreases-loop-context
decreases-loop-context g l = length l.waiting.items

abbrev pub invariant-loop-context : goal.invariant-loop-context
invariant-loop-context g l = record {
  suspends : (done : List (ContextState g.row.S.Denot g.row.F.Denot g.row.L.Denot))
      × (stopped : List (Parts g.row.S.Denot g.row.F.Denot g.row.L.Denot)) × (suspended : List SuspendedContext)
      × (l.fn.contexts.items ≡ done ++ l.waiting.items)
      × SuspendsAll (steps_of g.S.Servlet.servlet_step g.F.Filter.filter_step g.L.Listener.listener_step) done l.fn.journal stopped suspended l.journal
      × (l.parts.items ≡ l.fn.parts.items ++ stopped) × (l.remains.items ≡ l.fn.remains.items ++ suspended);
  parts : length l.parts.items + length l.waiting.items ≤ vec_capacity l.parts;
  remains : length l.remains.items + length l.waiting.items ≤ vec_capacity l.remains;
}
