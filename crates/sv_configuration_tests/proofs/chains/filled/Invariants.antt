use Rattle.std.proofs.Common.{◌≡◌}
use Rattle.sv_configuration_tests.proofs.chains.filled.Given as goal

abbrev pub invariant-loop-number : goal.invariant-loop-number
invariant-loop-number l = l.chains ≡ l.descriptor
