use Rattle.std.proofs.Common.{refl}
use Rattle.std.proofs.lemmas.List.{length-set}
use Rattle.sv_component.specs.Call.{Serviced}
use Rattle.sv_component.specs.Steps.{steps_of}
use Rattle.sv_live.specs.World.{world}
use Rattle.sv_live.proofs.ByPlace.{calls_once, servlet_there}
use Rattle.sv_live.proofs.Moving.{moves_servlet}
use Rattle.sv_live.proofs.live.Live.service.Goals as goal

pub returns-clause-serves : goal.returns-clause-serves
returns-clause-serves g c = record {
  step = c.service-step.result;
  calls = calls_once (steps_of g.S.Servlet.servlet_step g.F.Filter.filter_step g.L.Listener.listener_step) c.args.self.now _ c.as_str-context.result.now c.args.journal.now _ _ c.note.new.self
      c.self.view_is c.as_str-context.ensures
      (moves_servlet (steps_of g.S.Servlet.servlet_step g.F.Filter.filter_step g.L.Listener.listener_step) (world c.as_str-context.result.now c.self.inside.parts c.args.journal.now) c.args.place
      (Serviced c.args.exchange.now c.args.turn c.service-step.result c.service-step.new.exchange) c.index_mut-named.result.now c.service-step.new.self c.as_str-name.result.now c.note.new.self
      (servlet_there c.args.self.now _ c.args.place c.self.view_is c.requires.there) c.index_mut-named.ensures.value c.service-step.ensures.step c.as_str-name.ensures
      (c.note.ensures.takes _ (c.of_servlet.ensures _ (c.some_answer-noted.ensures _ c.step_answer.ensures))))
      (record { servlets = length-set _ c.args.place _; filters = refl; listeners = refl });
  answers = c.unless_broken.ensures;
}
