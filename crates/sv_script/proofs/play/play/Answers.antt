use Rattle.std.proofs.Common.{sym}
use Rattle.sv_run.specs.Seen.{happening_of}
use Rattle.sv_script.proofs.PlayLemmas.{line_accepted, line_stopped, nothing_asked}
use Rattle.sv_script.proofs.play.play.Goals.{in-Some+in-Ok-take_event, in-None}
use Rattle.sv_script.proofs.play.play.Goals as goal

pub returns-in-Err-take_event : goal.returns-in-Err-take_event
returns-in-Err-take_event g c =
    line_stopped g.R.EventHandler.steps g.O.Stream.makes c.args.course.now c.args.handler.now c.take_event.new.handler c.args.output.now c.take_event.new.output
    c.args.line.now c.in-Ok.said (happening_of c.in-Some.event) c.in-Err-take_event.fault c.in-Ok.ensures (sym c.in-Some.ensures) c.in-Err-take_event.ensures

pub returns : goal.returns
returns g c =
    elim c.match-event_of.branch [
      | in-Some+in-Ok-take_event w ↦
          line_accepted g.R.EventHandler.steps g.O.Stream.makes c.args.course.now c.args.handler.now w.take_event.new.handler c.match-event_of.handler
          c.args.output.now w.take_event.new.output c.match-event_of.output c.args.line.now c.in-Ok.said (happening_of w.in-Some.event)
          c.moment_behind.result c.match-event_of.accepted c.in-Ok.ensures (sym w.in-Some.ensures) w.in-Ok-take_event.ensures
          w.handler-is w.output-is c.moment_behind.ensures w.accepted-is
      | in-None w ↦
          nothing_asked g.R.EventHandler.steps g.O.Stream.makes c.args.course.now c.args.handler.now c.match-event_of.handler c.args.output.now c.match-event_of.output
          c.args.line.now c.in-Ok.said c.moment_behind.result c.match-event_of.accepted c.in-Ok.ensures (sym w.in-None.ensures) w.handler-is w.output-is
          c.moment_behind.ensures w.accepted-is
    ]
