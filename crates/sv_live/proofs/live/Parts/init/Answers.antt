use Rattle.std.proofs.Common.{Some, ap, subst}
use Rattle.sv_component.specs.Call.{Inited}
use Rattle.sv_component.specs.Steps.{steps_of}
use Rattle.sv_live.specs.Calls.{init_record}
use Rattle.sv_live.specs.World.{IsPlaceIn, world}
use Rattle.sv_live.proofs.Moving.{moves_filter, moves_same, moves_servlet}
use Rattle.sv_live.proofs.live.Parts.init.Goals as goal

pub returns-in-Filter-clause-moves : goal.returns-in-Filter-clause-moves
returns-in-Filter-clause-moves g c =
    moves_same (steps_of g.S.Servlet.servlet_step g.F.Filter.filter_step g.L.Listener.listener_step) _ _ _ _ (ap (λ place. init_record place c.args.config.now c.init-answer.result) c.in-Filter.is)
    (moves_filter (steps_of g.S.Servlet.servlet_step g.F.Filter.filter_step g.L.Listener.listener_step) (world c.args.context.now c.args.self.now c.args.journal.now) c.in-Filter.place
    (Inited c.args.config.now c.init-answer.result) c.index_mut-named.result.now c.init-answer.new.self c.as_str-name.result.now c.note.new.self
    (subst (IsPlaceIn c.args.self.now) c.in-Filter.is c.requires) c.index_mut-named.ensures.value c.init-answer.ensures c.as_str-name.ensures
    (c.note.ensures.takes _ (c.of_filter.ensures _ (ap Some c.init_answer.ensures))))

pub returns-in-Servlet-clause-moves : goal.returns-in-Servlet-clause-moves
returns-in-Servlet-clause-moves g c =
    moves_same (steps_of g.S.Servlet.servlet_step g.F.Filter.filter_step g.L.Listener.listener_step) _ _ _ _ (ap (λ place. init_record place c.args.config.now c.init-answer-in-Servlet.result) c.in-Servlet.is)
    (moves_servlet (steps_of g.S.Servlet.servlet_step g.F.Filter.filter_step g.L.Listener.listener_step) (world c.args.context.now c.args.self.now c.args.journal.now) c.in-Servlet.place
    (Inited c.args.config.now c.init-answer-in-Servlet.result) c.index_mut-named-in-Servlet.result.now c.init-answer-in-Servlet.new.self c.as_str-name-in-Servlet.result.now c.note-in-Servlet.new.self
    (subst (IsPlaceIn c.args.self.now) c.in-Servlet.is c.requires) c.index_mut-named-in-Servlet.ensures.value c.init-answer-in-Servlet.ensures c.as_str-name-in-Servlet.ensures
    (c.note-in-Servlet.ensures.takes _ (c.of_servlet.ensures _ (ap Some c.init_answer-in-Servlet.ensures))))
