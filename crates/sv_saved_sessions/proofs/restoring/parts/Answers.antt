use Rattle.std.proofs.Common.{◌∙◌, ap, sym}
use Rattle.sv_saved_sessions.specs.Reading.{head_at}
use Rattle.sv_saved_sessions.proofs.Parts.{all_parts}
use Rattle.sv_saved_sessions.proofs.restoring.parts.Goals as goal

pub returns : goal.returns
returns c =
    all_parts c.args.bytes.now c.read.new.cursor c.sessions.new.cursor c.in_ok-head.head c.in_ok-sessions.sessions c.with.result
    (ap head_at (sym c.new-cursor.ensures) ∙ c.in_ok-head.ensures) c.in_ok-sessions.ensures c.if-not-is_at_end.ensures c.with.ensures
