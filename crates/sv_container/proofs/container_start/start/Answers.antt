use Rattle.std.proofs.Common.{inr, sym, subst, ◌∙◌}
use Rattle.sv_container.specs.Paths.{ArePermitted}
use Rattle.sv_context.proofs.Succession.{contexts_count, paths_stay}
use Rattle.sv_context.specs.Room.{HasRoomToStop}
use Rattle.sv_container.proofs.container_start.start.Goals as goal
use Rattle.sv_component.specs.Steps.{steps_of}

pub container_of-requires-clause-permitted : goal.container_of-requires-clause-permitted
container_of-requires-clause-permitted g c =
    subst ArePermitted (sym (paths_stay (steps_of g.S.Servlet.servlet_step g.F.Filter.filter_step g.L.Listener.listener_step) c.args.deployments.items
    c.args.journal.now c.deploy_all.new.journal c.in-Ok.contexts.items c.in-Ok.ensures.0)) c.requires.permitted

pub container_of-requires-clause-stop : goal.container_of-requires-clause-stop
container_of-requires-clause-stop g c =
    subst (λ count. HasRoomToStop count c.in-Ok.stop) (sym (contexts_count (steps_of g.S.Servlet.servlet_step g.F.Filter.filter_step g.L.Listener.listener_step) c.args.deployments.items
    c.args.journal.now c.deploy_all.new.journal c.in-Ok.contexts.items c.in-Ok.ensures.0)) c.in-Ok.ensures.1

pub container_of-requires-clause-indexed : goal.container_of-requires-clause-indexed
container_of-requires-clause-indexed g c =
    c.requires.indexed ∙ sym (paths_stay (steps_of g.S.Servlet.servlet_step g.F.Filter.filter_step g.L.Listener.listener_step) c.args.deployments.items
    c.args.journal.now c.deploy_all.new.journal c.in-Ok.contexts.items c.in-Ok.ensures.0)

pub returns-in-Err : goal.returns-in-Err
returns-in-Err g c = inr (
  c.requires.permitted,
  record {
    failure = c.in-Err.fault;
    fails = c.in-Err.ensures;
    code = c.fault_of.ensures.code;
    context = c.fault_of.ensures.context;
    back = c.fault_of.ensures.deployments;
  },
)
