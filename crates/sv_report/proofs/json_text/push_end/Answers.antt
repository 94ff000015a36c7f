use Rattle.std.proofs.Common.{ap}
use Rattle.serde_json.specs.Written.{compact_text}
use Rattle.sv_report.specs.JsonParts.{unsearched_value}
use Rattle.sv_report.proofs.JsonTexts.{end_of_parts}
use Rattle.sv_report.proofs.json_text.push_end.Goals as goal

pub returns : goal.returns
returns c =
    end_of_parts c.args.context.now _ _ _ _ _ _ _ (ap (λ kinds. compact_text (unsearched_value kinds)) c.as_slice.ensures)
    c.in_ok-push_str.ensures.bytes c.in_ok-push_unsearched.ensures c.in_ok-push_str-2.ensures.bytes c.in_ok-push_viewer.ensures c.in_ok-push_str-3.ensures.bytes
