use Rattle.std.proofs.Common.{◌+◌, ◌≤◌, [], ◌∷◌, ◌++◌, length, vec_capacity, sym, ap, ◌∙◌, subst, arith, append_assoc, length-append}
use Rattle.sv_context.proofs.Succession.{contexts_count, deploys_next, failed_path, fits_next, path_there}
use Rattle.sv_context.specs.Several.{DeploysAll, UndeploysAll}
use Rattle.sv_context.proofs.several.deploy_each.Goals as goal
use Rattle.sv_component.specs.Steps.{steps_of}

pub deploy_next-requires : goal.deploy_next-requires
deploy_next-requires g c =
    let so_far = c.loop-deployment.invariant.deploys in
    let contexts = c.loop-deployment.room.contexts in
    fits_next so_far.0 c.args.deployments.items c.loop-deployment.waiting.items c.pop_front.new.self.items c.in-Some.deployment
    (length contexts.items) (vec_capacity contexts) so_far.1 c.in-Some.ensures.items
    (contexts_count (steps_of g.S.Servlet.servlet_step g.F.Filter.filter_step g.L.Listener.listener_step) so_far.0 c.args.journal.now c.loop-deployment.journal
    contexts.items so_far.2) c.loop-deployment.invariant.room

pub undo-requires-clause-there : goal.undo-requires-clause-there
undo-requires-clause-there g c =
    let so_far = c.loop-deployment.invariant.deploys in
    let contexts = c.loop-deployment.room.contexts.items in
    let counts = contexts_count (steps_of g.S.Servlet.servlet_step g.F.Filter.filter_step g.L.Listener.listener_step) so_far.0 c.args.journal.now
    c.loop-deployment.journal contexts so_far.2 in
    path_there so_far.0 c.args.deployments.items c.loop-deployment.waiting.items c.pop_front.new.self.items c.in-Some.deployment
    c.loop-deployment.room.paths.items (length c.deploy_next.new.contexts.items) so_far.1 c.in-Some.ensures.items
    (ap length c.in-Err.ensures.deploys.1 ∙ counts) c.loop-deployment.invariant.paths

pub undo-requires-clause-fits : goal.undo-requires-clause-fits
undo-requires-clause-fits g c =
    let so_far = c.loop-deployment.invariant.deploys in
    let contexts = c.loop-deployment.room.contexts.items in
    let counts = contexts_count (steps_of g.S.Servlet.servlet_step g.F.Filter.filter_step g.L.Listener.listener_step) so_far.0 c.args.journal.now
    c.loop-deployment.journal contexts so_far.2 in
    let fits : length c.deploy_next.new.contexts.items + 1 + length c.into_vec.result.items ≤ vec_capacity c.loop-deployment.room.stop.back =
    omega (
      arith,
      ap length c.in-Err.ensures.deploys.1,
      counts,
      ap length so_far.1,
      length-append so_far.0 c.loop-deployment.waiting.items,
      ap length c.in-Some.ensures.items,
      ap length c.into_vec.ensures.items,
      c.loop-deployment.invariant.stop.back_room,
    ) in
    fits

pub returns-in-Err : goal.returns-in-Err
returns-in-Err g c =
    let moving = steps_of g.S.Servlet.servlet_step g.F.Filter.filter_step g.L.Listener.listener_step in
    let so_far = c.loop-deployment.invariant.deploys in
    let refusal = c.in-Err.fault in
    let contexts = c.loop-deployment.room.contexts.items in
    let rest = c.pop_front.new.self.items in
    let stopped = c.undo.ensures.undone in
    let are = so_far.1 ∙ ap (λ waiting. so_far.0 ++ waiting) c.in-Some.ensures.items in
    let counts = contexts_count moving so_far.0 c.args.journal.now c.loop-deployment.journal contexts so_far.2 in record {
      front = so_far.0;
      failed = c.in-Some.deployment;
      rest = rest;
      are = are;
      contexts = contexts;
      started = c.loop-deployment.journal;
      starts = so_far.2;
      refusal = refusal;
      undone = c.deploy_next.new.journal;
      fails = c.in-Err.ensures.deploys.0;
      stopped = stopped.0;
      stops = subst (λ cs. UndeploysAll moving cs c.deploy_next.new.journal stopped.0 c.undo.new.journal)
          c.in-Err.ensures.deploys.1 stopped.1;
      code = c.undo.ensures.code;
      context = c.undo.ensures.context
          ∙ failed_path so_far.0 c.in-Some.deployment rest c.args.deployments.items c.loop-deployment.room.paths.items
          (length c.deploy_next.new.contexts.items) are c.loop-deployment.invariant.paths (ap length c.in-Err.ensures.deploys.1 ∙ counts);
      back = stopped.2 ∙ ap (λ others. stopped.0 ++ refusal.deployment ∷ others) c.into_vec.ensures.items;
    }

pub loop-deployment-preserved : goal.loop-deployment-preserved
loop-deployment-preserved g c =
    let moving = steps_of g.S.Servlet.servlet_step g.F.Filter.filter_step g.L.Listener.listener_step in
    let so_far = c.loop-deployment.invariant.deploys in
    let deployment = c.in-Some.deployment in
    let contexts = c.loop-deployment.room.contexts.items in
    let made = c.in_default-deploy_next.ensures.deploys in
    let stop = c.loop-deployment.invariant.stop in record {
      deploys = (
        so_far.0 ++ deployment ∷ [],
        so_far.1 ∙ ap (λ waiting. so_far.0 ++ waiting) c.in-Some.ensures.items
            ∙ sym (append_assoc so_far.0 (deployment ∷ []) c.pop_front.new.self.items),
        subst (λ cs. DeploysAll moving (so_far.0 ++ deployment ∷ []) c.args.journal.now cs c.deploy_next.new.journal)
            (sym made.2)
            (deploys_next moving so_far.0 c.args.journal.now c.loop-deployment.journal c.deploy_next.new.journal contexts
            deployment made.0 so_far.2 made.1),
      );
      paths = c.loop-deployment.invariant.paths;
      room = omega (arith, c.loop-deployment.invariant.room, c.deploy_next.ensures.room);
      stop = record { back = stop.back; back_room = stop.back_room; parts = stop.parts; parts_room = stop.parts_room; remains = stop.remains; remains_room = stop.remains_room };
    }
