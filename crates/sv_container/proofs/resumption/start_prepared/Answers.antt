use Rattle.std.proofs.Common.{inr, sym, subst, ◌∙◌}
use Rattle.sv_component.specs.Steps.{steps_of}
use Rattle.sv_container.proofs.Resumed.{count_resumed, paths_resumed}
use Rattle.sv_container.specs.Paths.{ArePermitted}
use Rattle.sv_context.proofs.Succession.{contexts_count, paths_stay}
use Rattle.sv_context.specs.Room.{HasRoomToStop}
use Rattle.sv_container.proofs.resumption.start_prepared.Goals as goal

pub container_at-requires-clause-permitted : goal.container_at-requires-clause-permitted
container_at-requires-clause-permitted g c =
    let moving = steps_of g.S.Servlet.servlet_step g.F.Filter.filter_step g.L.Listener.listener_step in
    subst ArePermitted
    (sym (paths_resumed moving c.args.prepared.resumptions.items c.in-Ok.contexts.items c.deploy_all.new.journal c.resume_contexts-resumed.result.items
    c.resume_contexts-resumed.new.journal c.resume_contexts-resumed.ensures
    ∙ paths_stay moving c.args.deployments.items c.args.journal.now c.deploy_all.new.journal c.in-Ok.contexts.items c.in-Ok.ensures.0)) c.requires.permitted

pub container_at-requires-clause-indexed : goal.container_at-requires-clause-indexed
container_at-requires-clause-indexed g c =
    let moving = steps_of g.S.Servlet.servlet_step g.F.Filter.filter_step g.L.Listener.listener_step in
    c.requires.indexed
    ∙ sym (paths_resumed moving c.args.prepared.resumptions.items c.in-Ok.contexts.items c.deploy_all.new.journal c.resume_contexts-resumed.result.items
    c.resume_contexts-resumed.new.journal c.resume_contexts-resumed.ensures
    ∙ paths_stay moving c.args.deployments.items c.args.journal.now c.deploy_all.new.journal c.in-Ok.contexts.items c.in-Ok.ensures.0)

pub container_at-requires-clause-stop : goal.container_at-requires-clause-stop
container_at-requires-clause-stop g c =
    let moving = steps_of g.S.Servlet.servlet_step g.F.Filter.filter_step g.L.Listener.listener_step in
    subst (λ count. HasRoomToStop count c.in-Ok.stop)
    (sym (count_resumed moving c.args.prepared.resumptions.items c.in-Ok.contexts.items c.deploy_all.new.journal c.resume_contexts-resumed.result.items
    c.resume_contexts-resumed.new.journal c.resume_contexts-resumed.ensures
    ∙ contexts_count moving c.args.deployments.items c.args.journal.now c.deploy_all.new.journal c.in-Ok.contexts.items c.in-Ok.ensures.0)) c.in-Ok.ensures.1

pub returns-in-Err : goal.returns-in-Err
returns-in-Err g c = λ suspended left takes. inr (
  c.requires.permitted,
  record {
    failure = c.in-Err.fault;
    fails = c.in-Err.ensures;
    code = c.fault_of.ensures.code;
    context = c.fault_of.ensures.context;
    back = c.fault_of.ensures.deployments;
  },
)
