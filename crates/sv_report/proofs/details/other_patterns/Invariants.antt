use Rattle.std.proofs.Common.{◌≡◌, take}
use Rattle.std.specs.String.{string_bytes}
use Rattle.std.specs.List.{flat_map}
use Rattle.sv_report.specs.Details.{other_pattern}
use Rattle.sv_report.proofs.details.other_patterns.Given as goal

abbrev pub invariant-loop-other : goal.invariant-loop-other
invariant-loop-other l = string_bytes l.text ≡ flat_map other_pattern (take l.other-index l.others)
