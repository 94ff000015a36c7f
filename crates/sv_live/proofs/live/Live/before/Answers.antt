use Rattle.std.proofs.Common.{refl}
use Rattle.std.proofs.lemmas.List.{length-set}
use Rattle.sv_component.specs.Call.{Entered}
use Rattle.sv_component.specs.Steps.{steps_of}
use Rattle.sv_live.specs.World.{world}
use Rattle.sv_live.proofs.ByPlace.{calls_once, filter_there}
use Rattle.sv_live.proofs.Moving.{moves_filter}
use Rattle.sv_live.proofs.live.Live.before.Goals as goal

pub returns-clause-enters : goal.returns-clause-enters
returns-clause-enters g c = record {
  gate = c.before-gate.result;
  calls = calls_once (steps_of g.S.Servlet.servlet_step g.F.Filter.filter_step g.L.Listener.listener_step) c.args.self.now _ c.as_str-context.result.now c.args.journal.now _ _ c.note.new.self
      c.self.view_is c.as_str-context.ensures
      (moves_filter (steps_of g.S.Servlet.servlet_step g.F.Filter.filter_step g.L.Listener.listener_step) (world c.as_str-context.result.now c.self.inside.parts c.args.journal.now) c.args.place
      (Entered c.args.exchange.now c.before-gate.result c.before-gate.new.exchange) c.index_mut-named.result.now c.before-gate.new.self c.as_str-name.result.now c.note.new.self
      (filter_there c.args.self.now _ c.args.place c.self.view_is c.requires) c.index_mut-named.ensures.value c.before-gate.ensures.step c.as_str-name.ensures
      (c.note.ensures.takes _ (c.of_filter.ensures _ (c.some_answer-noted.ensures _ c.gate_answer.ensures))))
      (record { servlets = refl; filters = length-set _ c.args.place _; listeners = refl });
  answers = c.unless_broken.ensures;
}
