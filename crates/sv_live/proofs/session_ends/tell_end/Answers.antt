use Rattle.std.proofs.Common.{length, ap, subst}
use Rattle.sv_component.specs.Runs.{Runs}
use Rattle.sv_component.specs.Steps.{steps_of}
use Rattle.sv_session.specs.declared.event.Event.TheVariants.{AttributeRemoved}
use Rattle.sv_listeners.specs.Telling.{told}
use Rattle.sv_live.specs.SessionEnds.{all_told, end_events}
use Rattle.sv_live.specs.World.{world}
use Rattle.sv_live.proofs.Places.{counts_join}
use Rattle.sv_live.proofs.SessionEnds.{doing_more, removals}
use Rattle.sv_live.proofs.session_ends.tell_end.Goals as goal

pub loop-attribute-preserved : goal.loop-attribute-preserved
loop-attribute-preserved g c =
    let count = length c.args.parts.now.listeners.items in
    let number = c.args.session.number in
    let event = AttributeRemoved number c.in-Some.attribute.name in
    let start = world c.args.context.now c.args.parts.now c.args.journal.now in
    let before = world c.args.context.now c.loop-attribute.parts c.loop-attribute.journal in
    let after = world c.args.context.now c.tell-in-loop-attribute.new.self c.tell-in-loop-attribute.new.journal in
    record {
      counts = counts_join c.args.parts.now c.loop-attribute.parts c.tell-in-loop-attribute.new.self c.loop-attribute.invariant.counts c.tell-in-loop-attribute.ensures.counts;
      made = doing_more (steps_of g.S.Servlet.servlet_step g.F.Filter.filter_step g.L.Listener.listener_step) start before after (all_told (end_events c.args.session) count)
          (removals number count c.loop-attribute.attribute-iterator.rest.items) (told event count) (removals number count c.next.new.self.rest.items)
          (ap (removals number count) c.in-Some.ensures.steps.0) c.loop-attribute.invariant.made
          (subst (λ n. Runs (steps_of g.S.Servlet.servlet_step g.F.Filter.filter_step g.L.Listener.listener_step) before (told event n) after)
          c.loop-attribute.invariant.counts.listeners c.tell-in-loop-attribute.ensures.made);
    }
