use Rattle.std.proofs.Common.{◌≡◌, map, take}
use Rattle.serde_json.specs.View.{view}
use Rattle.sv_report.specs.Json.{group_value}
use Rattle.sv_report.proofs.values.group_values.Given as goal

abbrev pub invariant-loop-group : goal.invariant-loop-group
invariant-loop-group l = map view l.values.items ≡ map (group_value l.context) (take l.group-index l.groups)
