use Rattle.sv_dispatch.specs.Did.{seen}
use Rattle.sv_live.specs.Standing.{live_world}
use Rattle.sv_component.specs.Call.{Serviced}
use Rattle.sv_component.specs.Runs.{OfServlet}
use Rattle.sv_component.specs.Steps.{steps_of}
use Rattle.sv_tree.specs.Telling.{all_told}
use Rattle.std.proofs.Common.{◌∷◌, length}
use Rattle.sv_dispatch.proofs.RunningDeeds.{asked_service, call_noted, framed, here_by_place, stands_then, was_whole}
use Rattle.sv_dispatch.proofs.live_machine.RunningMachine.service.Goals as goal

pub service-step-requires-clause-not_gone : goal.service-step-requires-clause-not_gone
service-step-requires-clause-not_gone g c = here_by_place c.args.self.now.live.now.standings c.args.place c.requires.here

pub returns : goal.returns
returns g c =
    let m = c.args.self.now in
    let live = m.live.now in
    let call = OfServlet c.args.place (Serviced c.args.self.now.exchange.now c.args.turn c.service-step.ensures.serves.step c.service-step.new.exchange) in
    let made = call ∷ all_told (length live.parts.listeners.items) c.service-step.new.exchange.events in
    let noted = call_noted (steps_of g.S.Servlet.servlet_step g.F.Filter.filter_step g.L.Listener.listener_step) live c.service-step.new.self c.tell_events.new.live
    m.journal.now c.service-step.new.journal c.tell_events.new.journal m.exchange.now c.service-step.new.exchange c.tell_events.new.exchange
    call c.service-step.ensures.serves.calls c.tell_events.ensures.made in
    let stands = stands_then live c.service-step.new.self c.tell_events.new.live c.service-step.ensures.serves.calls.stands c.tell_events.ensures.stands in
    record {
      made = made;
      does_so = asked_service (steps_of g.S.Servlet.servlet_step g.F.Filter.filter_step g.L.Listener.listener_step) live c.service-step.new.self c.tell_events.new.live
          m.journal.now c.service-step.new.journal c.tell_events.new.journal m.exchange.now c.service-step.new.exchange c.tell_events.new.exchange
          c.args.place c.service-step.ensures.reached c.tell_events.ensures.stands c.tell_events.ensures.told
          c.args.turn c.service-step.result (seen c.step_of.result) (seen c.unless_broken.result) c.service-step.ensures.serves c.step_of.ensures c.unless_broken.ensures;
      runs = λ from done so_far. noted (live_world from.live.now from.journal.now) done so_far;
      stays = framed m.live.ghost_name m.exchange.ghost_name m.journal.ghost_name live c.tell_events.new.live stands.context stands.counts stands.initialised
          m.journal.now.whole c.tell_events.new.journal.whole (seen c.step_of.result) (seen c.unless_broken.result)
          (was_whole (steps_of g.S.Servlet.servlet_step g.F.Filter.filter_step g.L.Listener.listener_step) (live_world live m.journal.now)
          (live_world c.tell_events.new.live c.tell_events.new.journal) made noted) c.unless_broken.ensures;
    }
