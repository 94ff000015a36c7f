use Rattle.std.proofs.Common.{◌≡◌, ◌++◌, codes, take}
use Rattle.std.specs.String.{string_bytes}
use Rattle.std.specs.List.{flat_map}
use Rattle.serde_json.specs.Written.{compact_text}
use Rattle.sv_report.specs.FindingJson.{finding_value}
use Rattle.sv_report.proofs.json_text.push_other_findings.Given as goal

abbrev pub invariant-loop-other : goal.invariant-loop-other
invariant-loop-other l = string_bytes l.text ≡ string_bytes l.fn.text ++ flat_map (λ other. codes "," ++ compact_text (finding_value l.context other)) (take l.other-index l.others)
