use Rattle.std.proofs.Common.{ap}
use Rattle.serde_json.specs.Written.{compact_text}
use Rattle.sv_report.specs.JsonParts.{strings}
use Rattle.sv_report.proofs.JsonTexts.{facts_of_parts}
use Rattle.sv_report.proofs.json_text.push_facts.Goals as goal

pub returns : goal.returns
returns c =
    facts_of_parts c.args.context.now _ _ _ _ _ _ _ _ _ _ _ c.truth_word.ensures c.truth_word-2.ensures (ap (λ texts. compact_text (strings texts)) c.as_slice.ensures)
    c.in_ok-push_str.ensures.bytes c.in_ok-push_str-2.ensures.bytes c.in_ok-push_str-3.ensures.bytes c.in_ok-push_str-4.ensures.bytes c.in_ok-push_str-5.ensures.bytes
    c.in_ok-push_strings.ensures c.in_ok-push_str-6.ensures.bytes
