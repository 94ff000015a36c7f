use Rattle.sv_streams.proofs.CallJoins.{writes_join}
use Rattle.sv_connection.proofs.turn.write_both.Goals as goal

pub returns : goal.returns
returns g c =
    writes_join g.S.Stream.makes c.args.first.now c.args.second.now c.args.stream.now c.write_all.new.sink c.write_all-2.new.sink c.write_all-2.result
    c.in_ok-write_all.ensures c.write_all-2.ensures
