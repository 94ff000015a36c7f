use Rattle.std.proofs.Common.{◌≡◌, ◌++◌, [], take}
use Rattle.std.specs.String.{string_bytes}
use Rattle.std.specs.List.{flat_map}
use Rattle.sv_report.specs.Text.{group_line}
use Rattle.sv_report.proofs.lines.push_groups.Given as goal

abbrev pub invariant-loop-group : goal.invariant-loop-group
invariant-loop-group l = string_bytes l.text ≡ string_bytes l.fn.text ++ flat_map (group_line l.context []) (take l.group-index l.groups)
