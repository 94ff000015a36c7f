use Rattle.std.proofs.Common.{◌≡◌, Some, take}
use Rattle.std.specs.Option.{option_copied}
use Rattle.sv_constraints.specs.Covering.{covering}
use Rattle.sv_constraints.specs.Findings.{findings_of}
use Rattle.sv_constraints.proofs.findings.Findings.gather.Given as goal

abbrev pub invariant-loop-constraint : goal.invariant-loop-constraint
invariant-loop-constraint l =
    l.found ≡ findings_of l.rules (option_copied l.fn.caller) (covering (take l.constraint-index l.constraints) (Some l.pattern) l.method)
