use Rattle.std.proofs.Common.{◌≡◌, ◌++◌, take}
use Rattle.std.specs.Prelude.{filter}
use Rattle.std.specs.List.{flat_map}
use Rattle.sv_findings.specs.Readings.{read_as}
use Rattle.sv_findings.specs.Uncovered.{is_left_out}
use Rattle.sv_findings.proofs.readings.push_read_in.Given as goal

abbrev pub invariant-loop-group : goal.invariant-loop-group
invariant-loop-group l = (l.findings.items ≡ l.initial.findings.items ++ flat_map (λ group. read_as l.initial.late l.pattern group.methods) (filter is_left_out (take l.group-index l.groups))) × (l.late ≡ l.initial.late)
