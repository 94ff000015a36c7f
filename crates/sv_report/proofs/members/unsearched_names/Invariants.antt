use Rattle.std.proofs.Common.{◌≡◌, map, take}
use Rattle.serde_json.specs.View.{view}
use Rattle.serde_json.specs.Data.{string}
use Rattle.sv_report.specs.FindingWords.{unsearched_name}
use Rattle.sv_report.proofs.members.unsearched_names.Given as goal

abbrev pub invariant-loop-kind : goal.invariant-loop-kind
invariant-loop-kind l = map view l.values.items ≡ map string (map unsearched_name (take l.kind-index l.kinds))
