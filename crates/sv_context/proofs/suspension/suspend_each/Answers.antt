use Rattle.std.proofs.Common.{[], ◌∷◌, ◌++◌, length, vec_capacity, refl, sym, ap, ◌∙◌, subst, append-nil, append_assoc, arith}
use Rattle.sv_context.proofs.Succession.{none_left, room_stays}
use Rattle.sv_context.proofs.Suspensions.{suspends_next}
use Rattle.sv_context.specs.Suspending.{SuspendsAll}
use Rattle.sv_context.proofs.suspension.suspend_each.Goals as goal
use Rattle.sv_component.specs.Steps.{steps_of}

pub loop-context-init : goal.loop-context-init
loop-context-init g c = record {
  suspends = ([], [], [], ap (λ items. items) (sym c.from_vec-waiting.ensures.items), (refl, refl, refl), sym (append-nil c.args.parts.now.items), sym (append-nil c.args.remains.now.items));
  parts = omega (arith, c.requires.parts, ap length c.from_vec-waiting.ensures.items);
  remains = omega (arith, c.requires.remains, ap length c.from_vec-waiting.ensures.items);
}

pub loop-context-preserved : goal.loop-context-preserved
loop-context-preserved g c =
    let so_far = c.loop-context.invariant.suspends in
    let context = c.in-Some.context in
    let stopped = c.suspend-stopped.result.0 in
    let suspended = c.suspend-stopped.result.1 in
    let rest = c.pop_front.new.self.items in record {
      suspends = (
        so_far.0 ++ context ∷ [],
        so_far.1 ++ stopped ∷ [],
        so_far.2 ++ suspended ∷ [],
        so_far.3 ∙ ap (λ waiting. so_far.0 ++ waiting) c.in-Some.ensures.items ∙ sym (append_assoc so_far.0 (context ∷ []) rest),
        suspends_next (steps_of g.S.Servlet.servlet_step g.F.Filter.filter_step g.L.Listener.listener_step) so_far.0 c.args.journal.now c.loop-context.journal
            c.suspend-stopped.new.journal so_far.1 so_far.2 context stopped suspended so_far.4 c.suspend-stopped.ensures,
        c.push.ensures.items ∙ ap (λ ones. ones ++ stopped ∷ []) so_far.5 ∙ append_assoc c.args.parts.now.items so_far.1 (stopped ∷ []),
        c.push-in-Some.ensures.items ∙ ap (λ ones. ones ++ suspended ∷ []) so_far.6 ∙ append_assoc c.args.remains.now.items so_far.2 (suspended ∷ []),
      );
      parts = room_stays c.loop-context.parts.items c.push.new.items.items stopped c.loop-context.waiting.items rest context
          (vec_capacity c.loop-context.parts) (vec_capacity c.push.new.items) c.push.ensures.items c.in-Some.ensures.items c.loop-context.invariant.parts
          c.push.ensures.room;
      remains = room_stays c.loop-context.remains.items c.push-in-Some.new.items.items suspended c.loop-context.waiting.items rest context
          (vec_capacity c.loop-context.remains) (vec_capacity c.push-in-Some.new.items) c.push-in-Some.ensures.items c.in-Some.ensures.items c.loop-context.invariant.remains
          c.push-in-Some.ensures.room;
    }

pub returns : goal.returns
returns g c =
    let moving = steps_of g.S.Servlet.servlet_step g.F.Filter.filter_step g.L.Listener.listener_step in
    let so_far = c.loop-context.invariant.suspends in
    let none = none_left c.loop-context.waiting.items c.pop_front.new.self.items c.in_default.ensures.items c.in_default.ensures.rest in
    let all = so_far.3 ∙ ap (λ waiting. so_far.0 ++ waiting) none ∙ append-nil so_far.0 in (
      so_far.1,
      so_far.2,
      subst (λ contexts. SuspendsAll moving contexts c.args.journal.now so_far.1 so_far.2 c.loop-context.journal) (sym all) so_far.4,
      so_far.5,
      so_far.6,
    )
