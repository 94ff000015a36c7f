use Rattle.sv_exchange.specs.Changing.{Reaches}
use Rattle.sv_dispatch_tests.proofs.scripts.play.Given as goal

abbrev pub invariant-loop-act : goal.invariant-loop-act
invariant-loop-act l = Reaches l.initial.exchange l.exchange
