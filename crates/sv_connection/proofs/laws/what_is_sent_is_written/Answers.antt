use Rattle.sv_connection.proofs.Bytes.{taken_of_calls}
use Rattle.sv_connection.proofs.laws.what_is_sent_is_written.Goals as goal

pub returns : goal.returns
returns c = taken_of_calls
