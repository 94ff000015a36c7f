use Rattle.std.proofs.Common.{rules}
use Rattle.sv_report.specs.Json.{row_value}
use Rattle.sv_report.proofs.JsonTexts.{listed}
use Rattle.sv_report.proofs.json_text.push_rows.Goals as goal

pub returns : goal.returns
returns c =
    listed (row_value c.args.context.now) c.in-Some.row.now c.in-Some.others.now c.args.rows.now _ _ _ _ _ (search rules) c.in_ok-push_str-2.ensures.bytes c.in_ok-push_row.ensures
    c.in_ok-push_other_rows.ensures c.in_ok-push_str-3.ensures.bytes
