use Rattle.std.proofs.Common.{rules}
use Rattle.sv_report.specs.Json.{context_value}
use Rattle.sv_report.proofs.JsonTexts.{listed}
use Rattle.sv_report.proofs.json_text.push_contexts.Goals as goal

pub returns : goal.returns
returns c =
    listed context_value c.in-Some.context.now c.in-Some.others.now c.args.contexts.now _ _ _ _ _ (search rules) c.in_ok-push_str-2.ensures.bytes c.in_ok-push_context.ensures
    c.in_ok-push_other_contexts.ensures c.in_ok-push_str-3.ensures.bytes
