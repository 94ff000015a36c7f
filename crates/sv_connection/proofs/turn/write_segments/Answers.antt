use Rattle.std.proofs.Common.{◌++◌}
use Rattle.sv_streams.proofs.CallJoins.{writes_join}
use Rattle.sv_connection.proofs.turn.write_segments.Goals as goal

pub returns : goal.returns
returns g c =
    rw c.slices.ensures at (writes_join g.S.Stream.makes (c.slices.result.0.now ++ c.slices.result.1.now) c.slices.result.2.now
    c.args.stream.now c.write_both.new.stream c.write_all.new.sink c.write_all.result c.in_ok-write_both.ensures c.write_all.ensures)
