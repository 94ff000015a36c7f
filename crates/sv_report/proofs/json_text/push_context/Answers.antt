use Rattle.std.proofs.Common.{ap, map}
use Rattle.serde_json.specs.Data.{array}
use Rattle.serde_json.specs.View.{items_of}
use Rattle.serde_json.specs.Written.{compact_text}
use Rattle.sv_report.specs.FindingJson.{finding_value}
use Rattle.sv_report.specs.Json.{row_value}
use Rattle.sv_report.proofs.JsonTexts.{context_written}
use Rattle.sv_report.proofs.json_text.push_context.Goals as goal

pub returns : goal.returns
returns c =
    context_written c.args.context.now c.push_end.result _ _ _ _ _ _ _ _
    (ap (λ findings. compact_text (array (items_of (map (finding_value c.args.context.now) findings)))) c.as_slice.ensures)
    (ap (λ rows. compact_text (array (items_of (map (row_value c.args.context.now) rows)))) c.as_slice-2.ensures)
    c.in_ok-push_start.ensures c.in_ok-push_findings.ensures c.in_ok-push_facts.ensures c.in_ok-push_rows.ensures c.push_end.ensures
