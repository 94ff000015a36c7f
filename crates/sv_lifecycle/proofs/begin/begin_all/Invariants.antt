use Rattle.std.proofs.Common.{◌≡◌, ◌≤◌, length, drop, map}
use Rattle.sv_descriptor.specs.declared.web_app.WebApp.{WebApp}
use Rattle.sv_lifecycle.specs.Calls.{config_at}
use Rattle.sv_live.specs.World.{HasSameCounts}
use Rattle.sv_lifecycle.proofs.Beginning.{SoFar}
use Rattle.sv_lifecycle.proofs.begin.begin_all.Given as goal
use Rattle.sv_component.specs.Steps.{steps_of}

abbrev pub invariant-loop-step : goal.invariant-loop-step
invariant-loop-step g l = record {
  counts : HasSameCounts l.initial.parts l.parts;
  few : l.initialised ≤ l.step;
  long : length l.plan.order.items ≡ length l.initial.plan.order.items;
  rest : drop l.step l.plan.order.items ≡ drop l.step l.initial.plan.order.items;
  rooms : length l.plan.standings.items ≡ length l.initial.plan.standings.items;
  configs : l.plan.configs ≡ l.initial.plan.configs;
  context : l.plan.context ≡ l.initial.plan.context;
  so_far : (app : WebApp) → l.initial.plan.configs.items ≡ map (config_at app) l.initial.plan.order.items
      → SoFar (steps_of g.S.Servlet.servlet_step g.F.Filter.filter_step g.L.Listener.listener_step) app l.initial.parts l.initial.plan l.initial.journal l.step l.initialised l.parts l.plan l.journal;
}
