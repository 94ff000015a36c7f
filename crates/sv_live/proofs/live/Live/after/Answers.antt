use Rattle.std.proofs.Common.{is_ok, refl}
use Rattle.std.proofs.lemmas.List.{length-set}
use Rattle.sv_component.specs.Call.{Left}
use Rattle.sv_component.specs.Steps.{steps_of}
use Rattle.sv_live.specs.World.{world}
use Rattle.sv_live.proofs.ByPlace.{calls_once, filter_there, ok_unless}
use Rattle.sv_live.proofs.Moving.{moves_filter}
use Rattle.sv_live.proofs.live.Live.after.Goals as goal

pub returns-clause-leaves : goal.returns-clause-leaves
returns-clause-leaves g c = record {
  done = is_ok c.after-done.result;
  calls = calls_once (steps_of g.S.Servlet.servlet_step g.F.Filter.filter_step g.L.Listener.listener_step) c.args.self.now _ c.as_str-context.result.now c.args.journal.now _ _ c.note.new.self
      c.self.view_is c.as_str-context.ensures
      (moves_filter (steps_of g.S.Servlet.servlet_step g.F.Filter.filter_step g.L.Listener.listener_step) (world c.as_str-context.result.now c.self.inside.parts c.args.journal.now) c.args.place
      (Left c.args.exchange.now (is_ok c.after-done.result) c.after-done.new.exchange) c.index_mut-named.result.now c.after-done.new.self c.as_str-name.result.now c.note.new.self
      (filter_there c.args.self.now _ c.args.place c.self.view_is c.requires) c.index_mut-named.ensures.value c.after-done.ensures.step c.as_str-name.ensures
      (c.note.ensures.takes _ (c.of_filter.ensures _ refl)))
      (record { servlets = refl; filters = length-set _ c.args.place _; listeners = refl });
  answers = ok_unless c.note.new.self.whole _ c.after-done.result c.unless_broken.result c.unless_broken.ensures;
}
