use Rattle.std.proofs.Common.{[], ◌∷◌, ◌++◌, vec_capacity, sym, ap, ◌∙◌, subst, arith, append-nil, append_assoc}
use Rattle.sv_context.proofs.Succession.{back_counts, none_left, room_stays, undeploys_next}
use Rattle.sv_context.specs.Several.{UndeploysAll}
use Rattle.sv_context.proofs.several.undeploy_each.Goals as goal
use Rattle.sv_component.specs.Steps.{steps_of}

pub loop-context-preserved : goal.loop-context-preserved
loop-context-preserved g c =
    let so_far = c.loop-context.invariant.undeploys in
    let context = c.in-Some.context in
    let deployment = c.undeploy.result in
    let rest = c.pop_front.new.self.items in record {
      undeploys = (
        so_far.0 ++ context ∷ [],
        so_far.1 ++ deployment ∷ [],
        so_far.2 ∙ ap (λ waiting. so_far.0 ++ waiting) c.in-Some.ensures.items ∙ sym (append_assoc so_far.0 (context ∷ []) rest),
        undeploys_next (steps_of g.S.Servlet.servlet_step g.F.Filter.filter_step g.L.Listener.listener_step) so_far.0 c.args.journal.now c.loop-context.journal
            c.undeploy.new.journal so_far.1 context deployment so_far.3 c.undeploy.ensures,
        c.push.ensures.items ∙ ap (λ back. back ++ deployment ∷ []) so_far.4 ∙ append_assoc c.args.back.now.items so_far.1 (deployment ∷ []),
      );
      room = room_stays c.loop-context.back.items c.push.new.items.items deployment c.loop-context.waiting.items rest context
          (vec_capacity c.loop-context.back) (vec_capacity c.push.new.items) c.push.ensures.items c.in-Some.ensures.items c.loop-context.invariant.room
          c.push.ensures.room;
      grows = omega (arith, c.loop-context.invariant.grows, c.push.ensures.room);
    }

pub returns-clause-undeploys : goal.returns-clause-undeploys
returns-clause-undeploys g c =
    let moving = steps_of g.S.Servlet.servlet_step g.F.Filter.filter_step g.L.Listener.listener_step in
    let so_far = c.loop-context.invariant.undeploys in
    let none = none_left c.loop-context.waiting.items c.pop_front.new.self.items c.in_default.ensures.items c.in_default.ensures.rest in
    let all = so_far.2 ∙ ap (λ waiting. so_far.0 ++ waiting) none ∙ append-nil so_far.0 in
    let stops = subst (λ contexts. UndeploysAll moving contexts c.args.journal.now so_far.1 c.loop-context.journal)
    (sym all) so_far.3 in (
      so_far.1,
      stops,
      so_far.4,
      back_counts moving c.args.contexts.items c.args.journal.now c.loop-context.journal so_far.1 stops,
    )
