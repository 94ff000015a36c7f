use Rattle.sv_connection.proofs.WholeCourse.{a_connection_is_a_run}
use Rattle.sv_connection.proofs.laws.a_connection_is_a_run.Goals as goal
use Rattle.sv_run.specs.Contexts.{theory_of}

pub returns : goal.returns
returns g c =
    a_connection_is_a_run g.R.EventHandler.steps g.S.Stream.makes g.C.Clock.tells
    (theory_of g.X.HasContextPath.path_of g.X.Context.conduct g.W.Words.draws)
