use Rattle.std.proofs.Common.{◌≡◌, ◌++◌, take}
use Rattle.std.specs.String.{string_bytes}
use Rattle.std.specs.List.{flat_map}
use Rattle.sv_report.specs.FindingText.{finding_lines}
use Rattle.sv_report.proofs.finding_lines.push_findings.Given as goal

abbrev pub invariant-loop-finding : goal.invariant-loop-finding
invariant-loop-finding l = string_bytes l.text ≡ string_bytes l.fn.text ++ flat_map (finding_lines l.context) (take l.finding-index l.findings)
