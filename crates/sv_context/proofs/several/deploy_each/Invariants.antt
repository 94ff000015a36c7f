use Rattle.std.proofs.Common.{◌≡◌, ◌≤◌, List, ◌++◌, length, vec_capacity}
use Rattle.sv_context.specs.Several.{DeploysAll, paths_of}
use Rattle.sv_context.specs.Room.{HasRoomToStop}
use Rattle.sv_lifecycle.specs.declared.deployment.Deployment.{Deployment}
use Rattle.sv_context.proofs.several.deploy_each.Given as goal
use Rattle.sv_component.specs.Steps.{steps_of}

abbrev pub decreases-loop-deployment : goal.decreases-loop-deployment
decreases-loop-deployment g l = length l.waiting.items

abbrev pub invariant-loop-deployment : goal.invariant-loop-deployment
invariant-loop-deployment g l = record {
  deploys : (front : List (Deployment g.row.S.Denot g.row.F.Denot g.row.L.Denot))
      × (l.fn.deployments.items ≡ front ++ l.waiting.items)
      × DeploysAll (steps_of g.S.Servlet.servlet_step g.F.Filter.filter_step g.L.Listener.listener_step) front l.fn.journal l.room.contexts.items l.journal;
  paths : l.room.paths.items ≡ paths_of l.fn.deployments.items;
  room : length l.fn.deployments.items ≤ vec_capacity l.room.contexts;
  stop : HasRoomToStop (length l.fn.deployments.items) l.room.stop;
}
