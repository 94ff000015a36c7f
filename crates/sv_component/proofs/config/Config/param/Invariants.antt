use Rattle.std.proofs.Common.{◌≡◌, drop}
use Rattle.sv_component.specs.Config.{param_of}
use Rattle.sv_component.proofs.config.Config.param.Given as goal

abbrev pub invariant-loop-param : goal.invariant-loop-param
invariant-loop-param l = param_of l.name (drop l.param-index l.param-items) ≡ param_of l.name l.param-items
