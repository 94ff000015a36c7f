use Rattle.std.proofs.Common.{ap, ◌∙◌}
use Rattle.serde_json.specs.Written.{compact_text, has_float}
use Rattle.sv_access_log.proofs.FloatLemmas.{in_line}
use Rattle.sv_access_log.proofs.json_lines.line_text.Goals as goal

pub returns : goal.returns
returns c =
    c.in_ok-text.ensures.text (ap has_float c.in_ok-value.ensures ∙ in_line c.args.access.now c.args.around.now) ∙ ap compact_text c.in_ok-value.ensures
