use Rattle.std.proofs.Common.{length, subst}
use Rattle.sv_component.specs.Runs.{Runs}
use Rattle.sv_component.specs.Steps.{steps_of}
use Rattle.sv_live.proofs.SessionEnds.{doing_all, doing_more}
use Rattle.sv_live.specs.Standing.{live_world}
use Rattle.sv_listeners.specs.Telling.{told}
use Rattle.sv_tree.specs.Telling.{all_told}
use Rattle.sv_dispatch.proofs.TellingDeeds.{is_without, none_told, still_without, taken}
use Rattle.sv_dispatch.proofs.RunningDeeds.{stands_then}
use Rattle.sv_dispatch.proofs.session_events.tell_events.Goals as goal

pub loop-event-preserved : goal.loop-event-preserved
loop-event-preserved g c =
    let count = length c.args.live.now.parts.listeners.items in
    let start = live_world c.args.live.now c.args.journal.now in
    let before = live_world c.loop-event.live c.loop-event.journal in
    let after = live_world c.tell_event.new.live c.tell_event.new.journal in
    record {
      stands = stands_then c.args.live.now c.loop-event.live c.tell_event.new.live c.loop-event.invariant.stands c.tell_event.ensures.stands;
      told = still_without c.loop-event.exchange c.take_event.new.self c.in-Some.ensures.left c.args.exchange.now c.loop-event.invariant.told;
      made = doing_more (steps_of g.S.Servlet.servlet_step g.F.Filter.filter_step g.L.Listener.listener_step) start before after (all_told count c.args.exchange.now.events)
          (all_told count c.loop-event.exchange.events) (told c.in-Some.event count) (all_told count c.take_event.new.self.events)
          (taken c.loop-event.exchange c.take_event.new.self c.in-Some.ensures.left count c.in-Some.event c.in-Some.ensures.oldest) c.loop-event.invariant.made
          (subst (λ n. Runs (steps_of g.S.Servlet.servlet_step g.F.Filter.filter_step g.L.Listener.listener_step) before (told c.in-Some.event n) after)
          c.loop-event.invariant.stands.counts.listeners c.tell_event.ensures.made);
    }

pub returns-clause-made : goal.returns-clause-made
returns-clause-made g c =
    let count = length c.args.live.now.parts.listeners.items in
    doing_all (steps_of g.S.Servlet.servlet_step g.F.Filter.filter_step g.L.Listener.listener_step) (live_world c.args.live.now c.args.journal.now)
    (live_world c.loop-event.live c.loop-event.journal) (all_told count c.args.exchange.now.events) (all_told count c.loop-event.exchange.events)
    (none_told c.loop-event.exchange c.take_event.new.self c.in_default.ensures.left count c.in_default.ensures.oldest) c.loop-event.invariant.made

pub returns-clause-told : goal.returns-clause-told
returns-clause-told g c =
    is_without c.loop-event.exchange c.take_event.new.self c.in_default.ensures.left c.args.exchange.now c.in_default.ensures.oldest c.loop-event.invariant.told
