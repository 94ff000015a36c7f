use Rattle.std.proofs.Common.{◌≡◌, ◌++◌, length, ◌∙◌, ap, subst, sym}
use Rattle.sv_component.specs.Runs.{Runs}
use Rattle.sv_component.specs.Steps.{steps_of}
use Rattle.sv_live.specs.SessionEnds.{all_told, end_events, ends_told}
use Rattle.sv_live.specs.World.{world}
use Rattle.sv_live.proofs.Places.{counts_join}
use Rattle.sv_live.proofs.SessionEnds.{doing_all, doing_more, ends_more, none_next, told_in_order, told_of}
use Rattle.sv_live.proofs.session_ends.end_sessions.Goals as goal

pub loop-session-preserved : goal.loop-session-preserved
loop-session-preserved g c =
    let count = length c.args.parts.now.listeners.items in
    let start = world c.args.context.now c.args.parts.now c.args.journal.now in
    let before = world c.args.context.now c.loop-session.parts c.loop-session.journal in
    let after = world c.args.context.now c.tell_end.new.parts c.tell_end.new.journal in
    record {
      counts = counts_join c.args.parts.now c.loop-session.parts c.tell_end.new.parts c.loop-session.invariant.counts c.tell_end.ensures.counts;
      made = doing_more (steps_of g.S.Servlet.servlet_step g.F.Filter.filter_step g.L.Listener.listener_step) start before after (told_of c.end_all-ended.result count)
          (told_of c.loop-session.ended count) (all_told (end_events c.in-Some.session) count) (told_of c.next.new.self count)
          (ends_more c.loop-session.ended c.in-Some.session count c.in-Some.ensures.next ∙ ap (λ rest. all_told (end_events c.in-Some.session) count ++ told_of rest count) (sym c.in-Some.ensures.left))
          c.loop-session.invariant.made
          (subst (λ n. Runs (steps_of g.S.Servlet.servlet_step g.F.Filter.filter_step g.L.Listener.listener_step) before (all_told (end_events c.in-Some.session) n) after)
          c.loop-session.invariant.counts.listeners c.tell_end.ensures.made);
    }

pub returns-clause-made : goal.returns-clause-made
returns-clause-made g c =
    let count = length c.args.parts.now.listeners.items in
    let start = world c.args.context.now c.args.parts.now c.args.journal.now in
    let last = world c.args.context.now c.loop-session.parts c.loop-session.journal in
    let all : ends_told c.args.sessions.now.store.sessions count ≡ told_of c.end_all-ended.result count =
    told_in_order 0 c.args.sessions.now.store.serial c.args.sessions.now.store.sessions count c.end_all-ended.ensures.order ∙ ap (λ ended. told_of ended count) (sym c.end_all-ended.ensures.ended) in
    subst (λ records. Runs (steps_of g.S.Servlet.servlet_step g.F.Filter.filter_step g.L.Listener.listener_step) start records last) (sym all)
    (doing_all (steps_of g.S.Servlet.servlet_step g.F.Filter.filter_step g.L.Listener.listener_step) start last (told_of c.end_all-ended.result count) (told_of c.loop-session.ended count)
    (ap (λ ended. told_of ended count) (none_next c.loop-session.ended c.in_default.ensures.next)) c.loop-session.invariant.made)
