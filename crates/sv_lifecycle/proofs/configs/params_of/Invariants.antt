use Rattle.std.proofs.Common.{◌≡◌, take}
use Rattle.sv_lifecycle.specs.Calls.{params_of}
use Rattle.sv_lifecycle.proofs.configs.params_of.Given as goal

abbrev pub invariant-loop-param : goal.invariant-loop-param
invariant-loop-param l = l.copies.items ≡ params_of (take l.param-index l.params)
