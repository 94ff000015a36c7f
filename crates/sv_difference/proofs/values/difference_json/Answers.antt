use Rattle.std.proofs.Common.{ap, codes, ◌++◌, ◌∙◌}
use Rattle.serde_json.specs.Written.{compact_text, has_float}
use Rattle.sv_difference.proofs.FloatLemmas.{in_report}
use Rattle.sv_difference.proofs.values.difference_json.Goals as goal

pub returns : goal.returns
returns c =
    c.from_string.ensures ∙ c.in_ok-push_str.ensures.bytes
    ∙ ap (λ text. text ++ codes "\n") (c.in_ok-text.ensures.text (ap has_float c.in_ok-value.ensures ∙ in_report c.args.report.now) ∙ ap compact_text c.in_ok-value.ensures)
