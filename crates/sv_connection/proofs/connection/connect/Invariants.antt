use Rattle.sv_connection.proofs.CourseLemmas.{Progress}
use Rattle.sv_connection.proofs.connection.connect.Given as goal

abbrev pub invariant-loop : goal.invariant-loop
invariant-loop g l = Progress g.R.EventHandler.steps g.S.Stream.makes g.C.Clock.tells l.fn.connection l.fn.handler l.fn.stream l.fn.clock l.counter l.handler l.stream l.clock
