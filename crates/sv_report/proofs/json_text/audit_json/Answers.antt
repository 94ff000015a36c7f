use Rattle.std.proofs.Common.{◌∙◌}
use Rattle.sv_report.proofs.JsonTexts.{audit_of_parts}
use Rattle.sv_report.proofs.json_text.audit_json.Goals as goal

pub returns : goal.returns
returns c =
    c.from_string.ensures
    ∙ audit_of_parts c.args.contexts.now _ _ _ _ c.new-text.ensures.bytes c.in_ok-push_str.ensures.bytes c.in_ok-push_contexts.ensures c.in_ok-push_str-2.ensures.bytes
