use Rattle.sv_difference.proofs.MeetingLemmas.{met_next}
use Rattle.sv_difference.proofs.meetings.meetings_at.Goals as goal

pub loop-path-preserved : goal.loop-path-preserved
loop-path-preserved c =
    met_next c.args.before.now c.args.after.now c.args.paths.now c.loop-path.path-index c.path-item.result c.as_str.result.now c.loop-path.meetings.items c.push_meeting.new.meetings.items
    c.loop-path-test.true c.path-item.is c.as_str.ensures c.loop-path.invariant c.in_ok-push_meeting.ensures
