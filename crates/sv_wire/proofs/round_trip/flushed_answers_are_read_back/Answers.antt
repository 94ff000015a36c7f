use Rattle.sv_wire.proofs.Written.{chunks_are_read_back}
use Rattle.sv_wire.proofs.round_trip.flushed_answers_are_read_back.Goals as goal

pub returns : goal.returns
returns c = chunks_are_read_back
