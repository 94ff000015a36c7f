use Rattle.sv_dispatch.specs.Did.{seen}
use Rattle.sv_live.specs.Standing.{live_world}
use Rattle.sv_component.specs.Call.{Entered}
use Rattle.sv_component.specs.Runs.{OfFilter}
use Rattle.sv_component.specs.Steps.{steps_of}
use Rattle.sv_tree.specs.Telling.{all_told}
use Rattle.std.proofs.Common.{◌∷◌, length}
use Rattle.sv_dispatch.proofs.RunningDeeds.{asked_before, call_noted, framed, stands_then, was_whole}
use Rattle.sv_dispatch.proofs.live_machine.RunningMachine.before.Goals as goal

pub returns : goal.returns
returns g c =
    let m = c.args.self.now in
    let live = m.live.now in
    let call = OfFilter c.args.place (Entered c.args.self.now.exchange.now c.before-gate.ensures.enters.gate c.before-gate.new.exchange) in
    let made = call ∷ all_told (length live.parts.listeners.items) c.before-gate.new.exchange.events in
    let noted = call_noted (steps_of g.S.Servlet.servlet_step g.F.Filter.filter_step g.L.Listener.listener_step) live c.before-gate.new.self c.tell_events.new.live
    m.journal.now c.before-gate.new.journal c.tell_events.new.journal m.exchange.now c.before-gate.new.exchange c.tell_events.new.exchange
    call c.before-gate.ensures.enters.calls c.tell_events.ensures.made in
    let stands = stands_then live c.before-gate.new.self c.tell_events.new.live c.before-gate.ensures.enters.calls.stands c.tell_events.ensures.stands in
    record {
      made = made;
      does_so = asked_before (steps_of g.S.Servlet.servlet_step g.F.Filter.filter_step g.L.Listener.listener_step) live c.before-gate.new.self c.tell_events.new.live
          m.journal.now c.before-gate.new.journal c.tell_events.new.journal m.exchange.now c.before-gate.new.exchange c.tell_events.new.exchange
          c.args.place c.before-gate.ensures.reached c.tell_events.ensures.stands c.tell_events.ensures.told
          c.before-gate.result (seen c.gate_of.result) (seen c.unless_broken.result) c.before-gate.ensures.enters c.gate_of.ensures c.unless_broken.ensures;
      runs = λ from done so_far. noted (live_world from.live.now from.journal.now) done so_far;
      stays = framed m.live.ghost_name m.exchange.ghost_name m.journal.ghost_name live c.tell_events.new.live stands.context stands.counts stands.initialised
          m.journal.now.whole c.tell_events.new.journal.whole (seen c.gate_of.result) (seen c.unless_broken.result)
          (was_whole (steps_of g.S.Servlet.servlet_step g.F.Filter.filter_step g.L.Listener.listener_step) (live_world live m.journal.now)
          (live_world c.tell_events.new.live c.tell_events.new.journal) made noted) c.unless_broken.ensures;
    }
