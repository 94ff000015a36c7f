use Rattle.std.proofs.Common.{◌≡◌, ◌++◌, List, take}
use Rattle.std.specs.List.{flat_map}
use Rattle.sv_constraints.specs.declared.constraint.Constraint.{Constraint}
use Rattle.sv_constraints.specs.declared.constraint.Rules.{Rules}
use Rattle.sv_findings.specs.Overruled.{AreOverruled, overruled_in}
use Rattle.sv_findings.proofs.overruled.push_overruled_among.Given as goal

abbrev pub invariant-loop-constraint : goal.invariant-loop-constraint
invariant-loop-constraint l = (rules : Rules) (all : List Constraint) → AreOverruled rules all l.overruled → l.findings.items ≡ l.initial.findings.items ++ flat_map (overruled_in rules all l.listed) (take l.constraint-index l.constraints)
