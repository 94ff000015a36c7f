use Rattle.sv_connection.proofs.Bytes.{given_of_calls}
use Rattle.sv_connection.proofs.laws.pieces_are_what_is_read.Goals as goal

pub returns : goal.returns
returns c = given_of_calls
