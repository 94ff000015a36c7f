use Rattle.sv_connection.proofs.WholeCourse.{only_pieces_send}
use Rattle.sv_connection.proofs.laws.only_pieces_send.Goals as goal
use Rattle.sv_run.specs.Contexts.{theory_of}

pub returns : goal.returns
returns g c = only_pieces_send (theory_of g.X.HasContextPath.path_of g.X.Context.conduct g.W.Words.draws)
