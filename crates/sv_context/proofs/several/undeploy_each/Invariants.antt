use Rattle.std.proofs.Common.{◌≡◌, ◌+◌, ◌≤◌, List, ◌++◌, length, vec_capacity}
use Rattle.sv_context.specs.Several.{UndeploysAll}
use Rattle.sv_context.specs.State.{ContextState}
use Rattle.sv_lifecycle.specs.declared.deployment.Deployment.{Deployment}
use Rattle.sv_context.proofs.several.undeploy_each.Given as goal
use Rattle.sv_component.specs.Steps.{steps_of}

abbrev pub decreases-loop-context : goal.decreases-loop-context
decreases-loop-context g l = length l.waiting.items

abbrev pub invariant-loop-context : goal.invariant-loop-context
invariant-loop-context g l = record {
  undeploys : (done : List (ContextState g.row.S.Denot g.row.F.Denot g.row.L.Denot))
      × (stopped : List (Deployment g.row.S.Denot g.row.F.Denot g.row.L.Denot))
      × (l.fn.contexts.items ≡ done ++ l.waiting.items)
      × UndeploysAll (steps_of g.S.Servlet.servlet_step g.F.Filter.filter_step g.L.Listener.listener_step) done l.fn.journal stopped l.journal
      × (l.back.items ≡ l.fn.back.items ++ stopped);
  room : length l.back.items + length l.waiting.items ≤ vec_capacity l.back;
  grows : vec_capacity l.fn.back ≤ vec_capacity l.back;
}
